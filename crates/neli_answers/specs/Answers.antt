-- How Linux answers a request, and with which message its answer ends (Linux 6.12; the function that decides stands
-- beside each row).
use Rattle.std.specs.Prelude.{ℕ, ℤ, negsuc, Bool, false, not, ◌&&◌, ◌||◌, ◌==◌, ◌%◌, nat_lt, bit_and, if◌then◌else◌}
use Rattle.std.specs.Prelude.{List, [], ◌∷◌}
use Rattle.std.specs.Ordering.{int_eq}
use Rattle.std.specs.List.{list_any}
use Rattle.neli_consts.specs.declared.nlm_f.NlmF.{NlmF}
use Rattle.neli_consts_system.specs.declared.socket.NlFamily.{NlFamily}
use Rattle.neli_consts_system.specs.declared.socket.NlFamily.TheVariants.{Route, SockOrInetDiag, Xfrm, Connector}
use Rattle.neli_consts_system.specs.declared.socket.NlFamily.TheVariants.{Generic, Netfilter}
use Rattle.neli_answers.specs.declared.answering.Answering.{Answering}
use Rattle.neli_answers.specs.declared.answering.Answering.TheVariants as answered

-- ---- the flags of a request

-- all of these bits are set
abbrev pub has_all : ℕ → NlmF → Bool
has_all bits flags = bit_and flags.0 bits == bits

-- one of the bits of DUMP is set, ROOT (0x100) or MATCH (0x200)
abbrev pub has_dump_bit : NlmF → Bool
has_dump_bit flags = not (bit_and flags.0 768 == 0)

-- ---- dumps

-- in routing the type of a get is 2 modulo 4 (rtnl_msgtype_kind)
abbrev pub is_routing_get : ℕ → Bool
is_routing_get type = type % 4 == 2

-- types of netfilter that a bit of DUMP makes a dump: the subsystem times 256, and its message
abbrev pub netfilter_dumps : List ℕ
netfilter_dumps =
    -- nf_conntrack_netlink.c: connections; with their counters reset; by processor; dying; unconfirmed
    0x101 ∷ 0x103 ∷ 0x104 ∷ 0x106 ∷ 0x107 ∷
    -- the same: expectations; by processor
    0x201 ∷ 0x203 ∷
    -- nfnetlink_acct.c: counters; with their reset
    0x701 ∷ 0x702 ∷
    -- nfnetlink_cttimeout.c, nfnetlink_cthelper.c
    0x801 ∷ 0x901 ∷
    -- nf_tables_api.c: tables, chains, rules, sets, elements, objects, objects with their reset, flow tables; rules and
    -- elements with their reset
    0xa01 ∷ 0xa04 ∷ 0xa07 ∷ 0xa0a ∷ 0xa0d ∷ 0xa13 ∷ 0xa15 ∷ 0xa17 ∷ 0xa19 ∷ 0xa21 ∷
    -- nfnetlink_hook.c
    0xc00 ∷ []

-- types of netfilter that are a dump whatever their flags (ip_set_dump of ip_set_core.c: list and save)
abbrev pub netfilter_lists : List ℕ
netfilter_lists = 0x607 ∷ 0x608 ∷ []

abbrev pub is_among : List ℕ → ℕ → Bool
is_among types type = list_any (λ t. t == type) types

-- a request of this protocol with this type and these flags is answered by a dump
abbrev pub is_dump : NlFamily → ℕ → NlmF → Bool
-- rtnetlink_rcv_msg
is_dump Route type flags = is_routing_get type && has_dump_bit flags
-- ctnetlink_get_conntrack, nf_tables_gettable and their like
is_dump Netfilter type flags =
    (is_among netfilter_dumps type && has_dump_bit flags) || is_among netfilter_lists type
-- inet_diag_rcv_msg_compat: TCPDIAG_GETSOCK (18), DCCPDIAG_GETSOCK (19); inet_diag_handler_cmd, unix_diag_handler_dump
-- and their like: SOCK_DIAG_BY_FAMILY (20)
is_dump SockOrInetDiag type flags =
    ((type == 18) || ((type == 19) || (type == 20))) && has_dump_bit flags
-- xfrm_user_rcv_msg: XFRM_MSG_GETSA (18), XFRM_MSG_GETPOLICY (21)
is_dump Xfrm type flags = ((type == 18) || (type == 21)) && has_dump_bit flags
-- cn_rx_skb
is_dump Connector type flags = false
-- genl_family_rcv_msg; by this rule other protocols are judged
is_dump protocol type flags = has_all 768 flags

-- ---- the answer

-- the shortest body that is looked at: a routing request of no byte is skipped (rtnetlink_rcv_msg), as is one of
-- netfilter below the 4 bytes of its header (nfnetlink_rcv_msg)
abbrev pub least_body : NlFamily → ℕ
least_body Route = 1
least_body Netfilter = 4
least_body protocol = 0

-- the request is skipped, but acknowledged if requested: its body is too short, or its type is a control message's,
-- which is below 16 (netlink_rcv_skb)
abbrev pub is_skipped : NlFamily → ℕ → ℕ → Bool
is_skipped protocol type length = nat_lt length (least_body protocol) || nat_lt type 16

-- by ACK (4) an acknowledgement (netlink_rcv_skb), else what a request without it is answered by
abbrev pub acknowledged_or : Answering → NlmF → Answering
acknowledged_or otherwise flags = if has_all 4 flags then answered.Acknowledgement else otherwise

-- without ACK what changes something is answered by nothing, and with ECHO (8) by each of its notifications; else one
-- message is expected
abbrev pub unacknowledged : NlFamily → ℕ → NlmF → Answering
unacknowledged Route type flags =
    if is_routing_get type && not (has_all 8 flags) then answered.Reply else answered.Silence
unacknowledged protocol type flags = if has_all 8 flags then answered.Silence else answered.Reply

-- of a protocol whose rules stand here
abbrev pub answering_by_type : NlFamily → ℕ → NlmF → ℕ → Answering
answering_by_type protocol type flags length =
    if is_skipped protocol type length then acknowledged_or answered.Silence flags
    else (if is_dump protocol type flags then answered.Dump
    else acknowledged_or (unacknowledged protocol type flags) flags)

-- by its flags alone: both bits of DUMP, else ACK, else one message
abbrev pub answering_by_flags : NlmF → Answering
answering_by_flags flags = if has_all 768 flags then answered.Dump else acknowledged_or answered.Reply flags

-- how a request of this protocol is answered: one with this type, these flags, and a body of this length
abbrev pub answering_of : NlFamily → ℕ → NlmF → ℕ → Answering
answering_of Route type flags length = answering_by_type Route type flags length
answering_of Generic type flags length = answering_by_type Generic type flags length
answering_of Netfilter type flags length = answering_by_type Netfilter type flags length
answering_of SockOrInetDiag type flags length = answering_by_type SockOrInetDiag type flags length
answering_of Xfrm type flags length = answering_by_type Xfrm type flags length
-- nothing is acknowledged (cn_rx_skb)
answering_of Connector type flags length = answered.Silence
answering_of protocol type flags length = answering_by_flags flags

-- ---- its end

-- the message is one of several (NLM_F_MULTI, 2)
abbrev pub is_part : NlmF → Bool
is_part flags = has_all 2 flags

-- the code of an error after which a dump goes on: -105, no buffer space (ENOBUFS of asm-generic/errno.h), with which
-- netlink_dump returns where the socket's buffer is full, and leaves the dump running (cb_running)
abbrev pub leaves_dump_running : ℤ → Bool
leaves_dump_running code = int_eq code (negsuc 104)

-- the answer ends with a message of this type, with these flags and this code: an error or an acknowledgement
-- (NLMSG_ERROR, 2) ends any, but for the error after which a dump goes on; the end of a dump (NLMSG_DONE, 3) ends a dump,
-- whether its messages have MULTI or not, and with it or as one message without MULTI a reply ends
abbrev pub ends_answer : Answering → ℕ → NlmF → ℤ → Bool
ends_answer answered.Dump type flags code = (not (leaves_dump_running code) && (type == 2)) || (type == 3)
ends_answer answered.Acknowledgement type flags code = type == 2
ends_answer answered.Reply type flags code = (type == 2) || ((type == 3) || not (is_part flags))
ends_answer answered.Silence type flags code = type == 2
