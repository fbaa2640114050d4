-- Laws of the fields of rules.
use Rattle.std.proofs.Common.{◌≡◌, ℕ, List, [], length, refl}
use Rattle.neli_body.specs.laws.Headers.{last_place, number-back, place, value-back}
use Rattle.neli_consts_routing.specs.FrAct.{fr_act_number, fr_act_of, fr_act_variants}
use Rattle.neli_consts_routing.specs.declared.rules.FrAct.TheVariants as fr_act
use Rattle.neli_consts_routing.specs.RtAddrFamily.{rt_addr_family_number, rt_addr_family_of, rt_addr_family_variants}
use Rattle.neli_consts_routing.specs.declared.addresses.RtAddrFamily.TheVariants as rt_addr_family
use Rattle.neli_consts_routing.specs.RtTable.{rt_table_number, rt_table_of, rt_table_variants}
use Rattle.neli_consts_routing.specs.declared.routes.RtTable.TheVariants as rt_table
use Rattle.neli_wire.specs.Numbers.{AreBytes}
use Rattle.neli_wire.specs.laws.Constants.{first_with-number}
use Rattle.neli_rtnl.specs.declared.fibmsg.FibmsgHeader.{FibmsgHeader}
use Rattle.neli_rtnl.specs.Fibmsg.{IsPlainFibmsg, fibmsg_bytes, fibmsg_header}

pub fibmsg-width : (h : FibmsgHeader) → length (fibmsg_bytes h) ≡ 12
fibmsg-width h = refl

pub fibmsg-reads_back : (h : FibmsgHeader) → IsPlainFibmsg h → fibmsg_header (fibmsg_bytes h) ≡ h
fibmsg-reads_back h is =
    rw (
      value-back 1 rt_addr_family_number rt_addr_family_of h.fib_family _ is.fib_family,
      number-back 1 h.fib_dst_len _ is.fib_dst_len,
      number-back 1 h.fib_src_len _ is.fib_src_len,
      number-back 1 h.fib_tos _ is.fib_tos,
      value-back 1 rt_table_number rt_table_of h.fib_table _ is.fib_table,
      number-back 1 h.pad1 _ is.pad1,
      number-back 1 h.pad2 _ is.pad2,
      value-back 1 fr_act_number fr_act_of h.fib_action _ is.fib_action,
      number-back 4 h.fib_flags.0 [] is.fib_flags,
    ) refl

pub fibmsg-writes_back : (s : List ℕ) → length s ≡ 12 → AreBytes s → fibmsg_bytes (fibmsg_header s) ≡ s
fibmsg-writes_back s size small =
    place 1 0 11 s _ _ size small (first_with-number rt_addr_family_number rt_addr_family_variants
    rt_addr_family.UnrecognizedConst (λ n. refl) _)
    (place 1 1 10 s _ _ size small refl
    (place 1 2 9 s _ _ size small refl
    (place 1 3 8 s _ _ size small refl
    (place 1 4 7 s _ _ size small (first_with-number rt_table_number rt_table_variants rt_table.UnrecognizedConst
    (λ n. refl) _)
    (place 1 5 6 s _ _ size small refl
    (place 1 6 5 s _ _ size small refl
    (place 1 7 4 s _ _ size small (first_with-number fr_act_number fr_act_variants fr_act.UnrecognizedConst
    (λ n. refl) _)
    (last_place 4 8 s _ size small refl))))))))
