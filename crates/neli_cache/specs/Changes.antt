-- What became of an object, by its bytes before and now.
use Rattle.std.specs.Prelude.{ℕ, List, Option, None, Some, if◌then◌else◌}
use Rattle.std.specs.Str.{bytes_eq}
use Rattle.neli_cache.specs.declared.change.Change.{Change}
use Rattle.neli_cache.specs.declared.change.Change.TheVariants as became

-- none where the bytes are the same
abbrev pub change_of : Option (List ℕ) → Option (List ℕ) → Option Change
change_of None None = None
change_of None (Some now) = Some became.New
change_of (Some before) None = Some became.Gone
change_of (Some before) (Some now) = if bytes_eq now before then None else Some became.Changed
