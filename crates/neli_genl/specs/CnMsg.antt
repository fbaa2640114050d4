-- Messages of the connector: `struct cn_msg` of linux/connector.h, and the payload.
use Rattle.std.specs.Prelude.{ℕ, List, ◌++◌, codes, nat_lt, unwrap_or, Ok, Err, if◌then◌else◌}
use Rattle.neli_wire.specs.Frames.{number_in}
use Rattle.neli_wire.specs.Numbers.{FitsBytes, little_bytes}
use Rattle.neli_attr.specs.Builders.{Outcome, require_field}
use Rattle.neli_body.specs.Headers.{IsNamed}
use Rattle.neli_consts_system.specs.CnMsgIdx.{cn_msg_idx_number, cn_msg_idx_of}
use Rattle.neli_consts_system.specs.CnMsgVal.{cn_msg_val_number, cn_msg_val_of}
use Rattle.neli_attr.specs.Builders.Fault.{Invalid}
use Rattle.neli_consts_system.specs.declared.connector.CnMsgIdx.{CnMsgIdx}
use Rattle.neli_consts_system.specs.declared.connector.CnMsgVal.{CnMsgVal}
use Rattle.neli_genl.specs.declared.cn_msg.CnMsg.{CnMsg}
use Rattle.neli_genl.specs.declared.cn_msg.CnMsgBuilder.{CnMsgBuilder}
use Rattle.neli_genl.specs.declared.cn_msg.CnMsgHeader.{CnMsgHeader}

-- the fields by their places, before the payload
abbrev pub cn_msg_header : List ℕ → CnMsgHeader
cn_msg_header s = record {
  idx = cn_msg_idx_of (number_in 4 0 s);
  val = cn_msg_val_of (number_in 4 4 s);
  seq = number_in 4 8 s;
  ack = number_in 4 12 s;
  len = number_in 2 16 s;
  flags = number_in 2 18 s;
}

-- the bytes of the fields, before the payload
abbrev pub cn_msg_bytes : CnMsgHeader → List ℕ
cn_msg_bytes h =
    little_bytes 4 (cn_msg_idx_number h.idx) ++ little_bytes 4 (cn_msg_val_number h.val)
    ++ little_bytes 4 h.seq ++ little_bytes 4 h.ack ++ little_bytes 2 h.len
    ++ little_bytes 2 h.flags

-- each field has a number of its size, and is read from that number
pub record IsPlainCnMsg (h : CnMsgHeader) : Type 0 where
  pub idx : IsNamed 4 cn_msg_idx_number cn_msg_idx_of h.idx
  pub val : IsNamed 4 cn_msg_val_number cn_msg_val_of h.val
  pub seq : FitsBytes 4 h.seq
  pub ack : FitsBytes 4 h.ack
  pub len : FitsBytes 2 h.len
  pub flags : FitsBytes 2 h.flags

-- the header of the given fields, with the length of the payload
abbrev pub cn_msg_with : {P : Type 0} → CnMsgBuilder P → CnMsgIdx → CnMsgVal → ℕ → CnMsgHeader
cn_msg_with b idx val len =
    record {
      idx = idx;
      val = val;
      seq = unwrap_or b.seq 0;
      ack = unwrap_or b.ack 0;
      len = len;
      flags = unwrap_or b.flags 0;
    }

-- the message that a builder makes: the length is that of the payload's bytes, which fits 16 bits
abbrev pub cn_msg_built : {P : Type 0} → (P → ℕ) → CnMsgBuilder P → Outcome (CnMsg P)
cn_msg_built size b =
    require_field (codes "idx") b.idx (λ idx.
    require_field (codes "val") b.val (λ val.
    require_field (codes "payload") b.payload (λ payload.
    if nat_lt 65535 (size payload) then Err (Invalid (codes "Length does not fit its field"))
    else Ok (record { header = cn_msg_with b idx val (size payload); payload = payload }))))
