use Rattle.neli_body.specs.laws.Bodies.{exact_refused}
use Rattle.neli_genl.specs.Genlmsghdr.{genlmsghdr_of, genlmsghdr_takes_memory}
use Rattle.neli_genl.proofs.genlmsghdr.GenlmsghdrFromBytesWithInput.from_bytes_with_input.Goals as goal

-- a refusal of the input's bytes is that of the input
pub returns-in-Err-clause-refused : goal.returns-in-Err-clause-refused
returns-in-Err-clause-refused g c =
    exact_refused
    (genlmsghdr_of g.H.TypeSize.width g.C.Constant.wire_value g.T.Constant.wire_value g.H.FromBytes.read)
    (genlmsghdr_takes_memory g.H.TypeSize.width g.H.FromBytes.read g.H.FromBytes.takes_memory)
    c.args.n c.args.cursor.now.rest c.in-Err.error c.in_ok-bytes.ensures.within
    (rw c.in_ok-bytes.ensures.value at c.in-Err.ensures.refused)
