-- Laws of the fields of connector messages.
use Rattle.std.proofs.Common.{◌≡◌, ℕ, List, [], length, refl}
use Rattle.neli_body.specs.laws.Headers.{last_place, number-back, place, value-back}
use Rattle.neli_consts_system.specs.CnMsgIdx.{cn_msg_idx_number, cn_msg_idx_of, cn_msg_idx_variants}
use Rattle.neli_consts_system.specs.declared.connector.CnMsgIdx.TheVariants as cn_msg_idx
use Rattle.neli_consts_system.specs.CnMsgVal.{cn_msg_val_number, cn_msg_val_of, cn_msg_val_variants}
use Rattle.neli_consts_system.specs.declared.connector.CnMsgVal.TheVariants as cn_msg_val
use Rattle.neli_wire.specs.Numbers.{AreBytes}
use Rattle.neli_wire.specs.laws.Constants.{first_with-number}
use Rattle.neli_genl.specs.declared.cn_msg.CnMsgHeader.{CnMsgHeader}
use Rattle.neli_genl.specs.CnMsg.{IsPlainCnMsg, cn_msg_bytes, cn_msg_header}

pub cn_msg-width : (h : CnMsgHeader) → length (cn_msg_bytes h) ≡ 20
cn_msg-width h = refl

pub cn_msg-reads_back : (h : CnMsgHeader) → IsPlainCnMsg h → cn_msg_header (cn_msg_bytes h) ≡ h
cn_msg-reads_back h is =
    rw (
      value-back 4 cn_msg_idx_number cn_msg_idx_of h.idx _ is.idx,
      value-back 4 cn_msg_val_number cn_msg_val_of h.val _ is.val,
      number-back 4 h.seq _ is.seq,
      number-back 4 h.ack _ is.ack,
      number-back 2 h.len _ is.len,
      number-back 2 h.flags [] is.flags,
    ) refl

pub cn_msg-writes_back : (s : List ℕ) → length s ≡ 20 → AreBytes s → cn_msg_bytes (cn_msg_header s) ≡ s
cn_msg-writes_back s size small =
    place 4 0 16 s _ _ size small (first_with-number cn_msg_idx_number cn_msg_idx_variants cn_msg_idx.UnrecognizedConst
    (λ n. refl) _)
    (place 4 4 12 s _ _ size small (first_with-number cn_msg_val_number cn_msg_val_variants cn_msg_val.UnrecognizedConst
    (λ n. refl) _)
    (place 4 8 8 s _ _ size small refl
    (place 4 12 4 s _ _ size small refl
    (place 2 16 2 s _ _ size small refl
    (last_place 2 18 s _ size small refl)))))
