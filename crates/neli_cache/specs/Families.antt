-- The keys of routing's objects, by the numbers of linux/rtnetlink.h and the headers of its messages.
use Rattle.std.specs.Prelude.{ℕ, ◌^◌, ◌-◌, [], ◌∷◌, None, Some}
use Rattle.neli_cache.specs.declared.keys.Keys.{Keys}
use Rattle.neli_cache.specs.declared.keys.Part.TheVariants.{Attribute, Bytes, Nothing}

-- RTM_NEWLINK and RTM_DELLINK of AF_UNSPEC; struct ifinfomsg, whose ifi_index is the key
abbrev pub links : Keys
links = record {
  new_type = 16;
  gone_type = 17;
  family = Some 0;
  header = 16;
  parts = Bytes 4 8 ∷ Nothing ∷ Nothing ∷ Nothing ∷ Nothing ∷ Nothing ∷ [];
}

-- RTM_NEWADDR and RTM_DELADDR; struct ifaddrmsg: ifa_family and ifa_prefixlen, ifa_index; IFA_LOCAL, IFA_ADDRESS
abbrev pub addresses : Keys
addresses = record {
  new_type = 20;
  gone_type = 21;
  family = None;
  header = 8;
  parts = Bytes 0 2 ∷ Bytes 4 8 ∷ Attribute 2 ∷ Attribute 1 ∷ Nothing ∷ Nothing ∷ [];
}

-- RTM_NEWNEIGH and RTM_DELNEIGH of a family; struct ndmsg: ndm_ifindex; NDA_DST
abbrev pub neighbours : ℕ → Keys
neighbours family = record {
  new_type = 28;
  gone_type = 29;
  family = Some family;
  header = 12;
  parts = Bytes 4 8 ∷ Attribute 1 ∷ Nothing ∷ Nothing ∷ Nothing ∷ Nothing ∷ [];
}

-- RTM_NEWROUTE and RTM_DELROUTE of AF_INET; struct rtmsg: rtm_dst_len, rtm_src_len, rtm_tos; RTA_DST, RTA_TABLE,
-- RTA_PRIORITY
abbrev pub routes : Keys
routes = record {
  new_type = 24;
  gone_type = 25;
  family = Some 2;
  header = 12;
  parts = Bytes 1 4 ∷ Attribute 1 ∷ Attribute 15 ∷ Attribute 6 ∷ Nothing ∷ Nothing ∷ [];
}

-- the same of AF_INET6, and also RTA_OIF and RTA_GATEWAY
abbrev pub routes_of_ipv6 : Keys
routes_of_ipv6 = record {
  new_type = 24;
  gone_type = 25;
  family = Some 10;
  header = 12;
  parts = Bytes 1 4 ∷ Attribute 1 ∷ Attribute 15 ∷ Attribute 6 ∷ Attribute 4 ∷ Attribute 5 ∷ [];
}

-- RTM_NEWRULE and RTM_DELRULE; struct fib_rule_hdr but its flags, and all attributes
abbrev pub rules : Keys
rules = record {
  new_type = 32;
  gone_type = 33;
  family = None;
  header = 12;
  parts = Bytes 0 8 ∷ Bytes 12 (2 ^ 64 - 1) ∷ Nothing ∷ Nothing ∷ Nothing ∷ Nothing ∷ [];
}

-- RTM_NEWNEXTHOP and RTM_DELNEXTHOP; struct nhmsg; NHA_ID
abbrev pub next_hops : Keys
next_hops = record {
  new_type = 104;
  gone_type = 105;
  family = None;
  header = 8;
  parts = Attribute 1 ∷ Nothing ∷ Nothing ∷ Nothing ∷ Nothing ∷ Nothing ∷ [];
}
