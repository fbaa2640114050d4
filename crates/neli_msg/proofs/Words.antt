-- The text of an attribute, if it has one.
use Rattle.std.proofs.Common.{◌≡◌, sym, ap, ℕ, List, Some, None, Ok, Err}
use Rattle.std.specs.Result.{result_ok}
use Rattle.neli_wire.specs.declared.errors.DeError.{DeError}
use Rattle.neli_wire.specs.Strings.{owned_text}
use Rattle.neli_msg.specs.Explained.{words_in}

pub some_words : (payload text : List ℕ) → owned_text payload ≡ Ok text → Some text ≡ words_in payload
some_words payload text read = sym (ap result_ok read)

pub no_words : (payload : List ℕ) (error : DeError) → owned_text payload ≡ Err error → None ≡ words_in payload
no_words payload error refused = sym (ap result_ok refused)
