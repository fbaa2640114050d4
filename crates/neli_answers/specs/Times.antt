-- When answers come, by protocol (Linux 6.12).
use Rattle.std.specs.Prelude.{Bool, true, false}
use Rattle.neli_consts_system.specs.declared.socket.NlFamily.{NlFamily}
use Rattle.neli_consts_system.specs.declared.socket.NlFamily.TheVariants as family

-- the kernel answers a request of this protocol while it is sent, or goes on with its dump whenever the socket is received
-- from: rtnetlink_rcv, genl_rcv, nfnetlink_rcv, sock_diag_rcv, xfrm_netlink_rcv and cn_rx_skb run within sendmsg. Others
-- may answer later, as audit by a thread of its own (audit_send_reply_thread), or another process
abbrev pub answers_at_once : NlFamily → Bool
answers_at_once family.Route = true
answers_at_once family.Generic = true
answers_at_once family.Netfilter = true
answers_at_once family.SockOrInetDiag = true
answers_at_once family.Xfrm = true
answers_at_once family.Connector = true
answers_at_once protocol = false
