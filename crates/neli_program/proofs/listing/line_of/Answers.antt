use Rattle.std.proofs.Common.{nat_eq, false, ◌≡◌, rules}
use Rattle.neli_program.proofs.Listings.{body_line}
use Rattle.neli_program.proofs.listing.line_of.Goals as goal

pub returns-clause-value : goal.returns-clause-value
returns-clause-value c =
    let header = c.args.message.now.header in
    let error : nat_eq header.message_type 2 ≡ false = search rules in
    let done : nat_eq header.message_type 3 ≡ false = search rules in
    (_, body_line header c.args.message.now.payload.now error done, c.of_body.ensures)
