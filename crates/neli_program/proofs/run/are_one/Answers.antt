use Rattle.std.proofs.Common.{◌≡◌, ◌≤◌, ◌<◌, ◌∙◌, string_bytes, List, [], ◌∷◌, length, get_or, sym, ap, arith}
use Rattle.std.proofs.lemmas.Bool.Decides.{Decides-eqb}
use Rattle.std.proofs.lemmas.Slice.Eq.{slice_eq-Decides}
use Rattle.neli_program.proofs.run.are_one.Goals as goal

-- a list of one element
one_element : {A : Type 0} (xs : List A) (x : A) → 1 ≤ length xs → length xs < 2 → x ≡ get_or xs 0 x → xs ≡ x ∷ []
one_element [] x some few is = absurd (omega (arith, some))
one_element (y ∷ []) x some few is = ap (λ z. z ∷ []) (sym is)
one_element (y ∷ z ∷ xs) x some few is = absurd (omega (arith, few))

pub returns-in-len1 : goal.returns-in-len1
returns-in-len1 c =
    let decides = slice_eq-Decides Decides-eqb c.as_str.result.now c.args.name.now c.eq.result c.eq.ensures in
    let words : c.args.words.now ≡ c.word-item.result ∷ [] =
    one_element _ _ c.in-len1.len_at_least c.in-len1.len_below c.word-item.is in (
      λ yes. rw words (ap (λ bytes. bytes ∷ []) (sym c.as_str.ensures.value ∙ decides.0 yes)),
      λ same.
          let one : string_bytes c.word-item.result ∷ [] ≡ c.args.name.now ∷ [] = rw words at same in
          let word : string_bytes c.word-item.result ≡ c.args.name.now = cc in
          decides.1 (c.as_str.ensures.value ∙ word),
    )
