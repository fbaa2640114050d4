use Rattle.std.proofs.Common.{arith, ◌≡◌, length, ◌∙◌, sym}
use Rattle.neli_log.specs.Places.{place_of}
use Rattle.neli_log.proofs.Keeps.{kept_none, kept_some}
use Rattle.neli_log.proofs.places.Places.len.Goals as goal

pub returns-clause-none : goal.returns-clause-none
returns-clause-none g c =
    let s = c.args.self.now in
    let len : c.len.result ≡ length s.entries.items = omega (arith, s.entries.ok.0, c.len.ensures) in (
      (λ z w ds is. kept_none (place_of s) s.base s.entries.items (sym len ∙ z) w ds is),
      (λ all. len ∙ kept_some (place_of s) s.base s.entries.items c.requires.begins all),
    )
