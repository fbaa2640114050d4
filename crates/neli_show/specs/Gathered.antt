-- Text on its way to a writer.
use Rattle.std.specs.Prelude.{ℕ, List, Option}
use Rattle.std.specs.Io.KnownBytes.{append_known}
use Rattle.neli_show.specs.declared.gathered.Gathered.{Gathered}

-- what the writer has, and then what is gathered
abbrev pub held : {W : Type 0} → (W → Option (List ℕ)) → Gathered W → Option (List ℕ)
held contents g = append_known (contents g.out.now) g.text.bytes
