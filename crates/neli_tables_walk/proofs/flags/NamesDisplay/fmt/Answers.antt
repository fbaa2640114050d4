use Rattle.std.proofs.Common.{◌≡◌, ℕ, Bool, true, false, List, [], ◌∷◌, ◌++◌, codes, ap, refl, sym}
use Rattle.std.proofs.Common.{◌∙◌, rules, map, arith}
use Rattle.std.proofs.Output.{has_written_append, has_written_of_eq}
use Rattle.std.specs.Prelude.{if◌then◌else◌}
use Rattle.std.specs.Fmt.{digits}
use Rattle.std.proofs.lemmas.Bool.{ne_eqb}
use Rattle.neli_tables.specs.Lines.{LineSeen, line_view}
use Rattle.neli_tables.specs.Bits.{is_set, unnamed_bits}
use Rattle.neli_tables_walk.specs.Flags.{in_quotes, name_if_set, unnamed_text}
use Rattle.neli_tables_walk.specs.Names.{name_text}
use Rattle.neli_tables_walk.proofs.ValueLists.{rows-after-last, rows-after-skip, rows-after-step}
use Rattle.neli_tables_walk.proofs.flags.NamesDisplay.fmt.Goals as goal
use Rattle.neli_tables_walk.proofs.flags.NamesDisplay.fmt.Goals.{then-is_set+in_ok-write, else-is_set}

-- a row whose bits are set has its name, and another one none
named : (bits : ℕ) (row : LineSeen) → is_set bits row ≡ true
    → name_if_set bits row ≡ name_text row.name ∷ []
named bits row e = ap (λ (b : Bool). if b then name_text row.name ∷ [] else []) e

unnamed : (bits : ℕ) (row : LineSeen) → is_set bits row ≡ false → name_if_set bits row ≡ []
unnamed bits row e = ap (λ (b : Bool). if b then name_text row.name ∷ [] else []) e

-- bits that are left are one number
number : (n left : ℕ) → n ≡ left → (n ≡ 0 → ⊥)
    → unnamed_text left ≡ (codes "0x" ++ digits 16 false n) ∷ []
number n left same some =
    ap unnamed_text (sym same)
    ∙ ap (λ (b : Bool). if b then [] else (codes "0x" ++ digits 16 false n) ∷ []) (ne_eqb n 0 some)

pub loop-row-preserved : goal.loop-row-preserved
loop-row-preserved g c =
    let bits = c.args.self.now.flags.bits in
    let rows = c.rows-rows.result.now in
    let row = c.row-item.result in
    let q = c.args.self.now.quote.now in
    let between = c.args.self.now.between.now in
    let last = unnamed_text (unnamed_bits bits bits (map line_view rows)) in
    let h = λ (ts : List (List ℕ)). in_quotes q (ts ++ last) in
    let text = name_text (line_view row).name in
    elim c.if-is_set.branch [
      | then-is_set+in_ok-write w ↦ rw (w.f-is, w.before-is) (
        search rules,
        λ plain.
            let i = c.loop-row.invariant.1 plain in (
              i.0 ++ (c.loop-row.before.now ++ (q ++ (text ++ q))),
              has_written_append _ _ _ _ _ _ i.1 (search rules),
              rows-after-step (name_if_set bits) h line_view rows c.loop-row.row-index row
                  c.loop-row-test.true c.row-item.is between c.loop-row.before.now i.0 _ text
                  (q ++ (text ++ q))
                  (named bits (line_view row) (sym c.is_set.ensures
                  ∙ w.if-is_set.true)) (λ ts. refl) i.2,
            ),
      )
      | else-is_set w ↦ rw (w.f-is, w.before-is) (
        c.loop-row.invariant.0,
        λ plain.
            let i = c.loop-row.invariant.1 plain in (
              i.0,
              i.1,
              rows-after-skip (name_if_set bits) h line_view rows c.loop-row.row-index row
                  c.loop-row-test.true c.row-item.is between c.loop-row.before.now i.0 _
                  (unnamed bits (line_view row) (sym c.is_set.ensures ∙ w.if-is_set.false)) i.2,
            ),
      )
    ]

pub returns-clause-writes : goal.returns-clause-writes
returns-clause-writes g c = λ plain ok.
    let i = c.loop-row.invariant.1 plain in
    let bits = c.args.self.now.flags.bits in
    let rows = c.rows-rows.result.now in
    let q = c.args.self.now.quote.now in
    let n = c.unnamed_bits-left.result in
    let last = unnamed_text (unnamed_bits bits bits (map line_view rows)) in
    let h = λ (ts : List (List ℕ)). in_quotes q (ts ++ last) in
    let written = q ++ ((codes "0x" ++ digits 16 false n) ++ q) in
    has_written_of_eq _ _ _ _ _
    (rows-after-last
    (name_if_set bits) h line_view rows c.loop-row.row-index c.args.self.now.between.now
    c.loop-row.before.now i.0 _ written (omega arith)
    (ap (in_quotes q) (number n _ c.unnamed_bits-left.ensures (λ e. omega arith))) i.2)
    (has_written_append _ _ _ _ (c.loop-row.before.now ++ written) _ i.1 (search rules))
