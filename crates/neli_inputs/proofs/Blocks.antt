-- Blocks and options, of which so many bytes are passed over.
use Rattle.std.proofs.Common.{◌≡◌, ◌≢◌, ◌∙◌, ◌≤◌, ◌<◌, ◌+◌, ◌-◌, ℕ, zero, suc, List, [], ◌∷◌, ◌++◌, length, take, drop}
use Rattle.std.proofs.Common.{Ok, refl, ap, arith, append_assoc, drop-drop, sym}
use Rattle.std.proofs.Math.ListN.{drop_of_length-le}
use Rattle.neli_inputs.specs.declared.item.Item.{Item}
use Rattle.neli_inputs.specs.declared.order.Order.{Order}
use Rattle.neli_inputs.specs.declared.pcapng.Interface.{Interface}
use Rattle.neli_inputs.specs.Orders.{half_in}
use Rattle.neli_inputs.specs.Pcapng.{described, front, interface_number, items_by, items_from, padded}
use Rattle.neli_inputs.specs.Pcapng.{resolution_from}

-- ---- options

options-passed : (order : Order) (n : ℕ) (bytes : List ℕ)
    → resolution_from order n bytes ≡ resolution_from order 0 (drop n bytes)
options-passed order zero bytes = refl
options-passed order (suc n) [] = refl
options-passed order (suc n) (b ∷ bytes) = options-passed order n bytes

-- an option of another code
pub option-more : (order : Order) (rest : List ℕ) → 5 ≤ length rest → half_in order rest 0 ≢ 0
    → half_in order rest 0 ≢ 9
    → resolution_from order 0 rest ≡ resolution_from order 0 (drop (4 + padded (half_in order rest 2)) rest)
option-more order [] large end time = absurd (omega (arith, large))
option-more order (b ∷ bytes) large end time =
    let next = options-passed order (3 + padded (half_in order (b ∷ bytes) 2)) bytes in
    let e : 4 + padded (half_in order (b ∷ bytes) 2) ≡ suc (3 + padded (half_in order (b ∷ bytes) 2)) = omega arith in
    rw e (grind (arith, next))

-- the same of the options from `place` on
pub options-more : (order : Order) (options : List ℕ) (place p : ℕ) → 5 ≤ length (drop place options)
    → half_in order (drop place options) 0 ≢ 0 → half_in order (drop place options) 0 ≢ 9
    → p ≡ padded (half_in order (drop place options) 2)
    → resolution_from order 0 (drop place options) ≡ resolution_from order 0 (drop (place + (4 + p)) options)
options-more order options place p large end time is =
    option-more order (drop place options) large end time
    ∙ ap (λ (n : ℕ). resolution_from order 0 (drop (4 + n) (drop place options))) (sym is)
    ∙ ap (λ (l : List ℕ). resolution_from order 0 l) (drop-drop (4 + p) place options)

-- an option past the end
pub options-last : (order : Order) (options : List ℕ) (place p : ℕ) → 5 ≤ length (drop place options)
    → half_in order (drop place options) 0 ≢ 0 → half_in order (drop place options) 0 ≢ 9
    → p ≡ padded (half_in order (drop place options) 2) → length (drop place options) < 4 + p
    → 6 ≡ resolution_from order 0 (drop place options)
options-last order options place p large end time is past =
    let within : length (drop place options) ≤ 4 + p = omega (arith, past) in
    let none : drop (4 + p) (drop place options) ≡ [] = drop_of_length-le _ within in
    sym (option-more order (drop place options) large end time
    ∙ ap (λ (n : ℕ). resolution_from order 0 (drop (4 + n) (drop place options))) (sym is)
    ∙ ap (λ (l : List ℕ). resolution_from order 0 l) none)

-- ---- blocks

blocks-passed : (order : Order) (interfaces : List Interface) (place n : ℕ) (bytes : List ℕ)
    → items_from order interfaces place n bytes ≡ items_from order interfaces place 0 (drop n bytes)
blocks-passed order interfaces place zero bytes = refl
blocks-passed order interfaces place (suc n) [] = refl
blocks-passed order interfaces place (suc n) (b ∷ bytes) = blocks-passed order interfaces place n bytes

-- a block more
pub block-more : (order here : Order) (interfaces : List Interface) (place size : ℕ) (bytes : List ℕ)
    → 0 < length bytes → 0 < size → front order bytes ≡ Ok (here, size)
    → items_from order interfaces place 0 bytes
    ≡ items_by here (described here interfaces (take size bytes)) (interface_number here (take size bytes))
    (take size bytes) place
    ++ items_from here (described here interfaces (take size bytes)) (place + size) 0 (drop size bytes)
block-more order here interfaces place size [] some large is = absurd (omega (arith, some))
block-more order here interfaces place zero (b ∷ bytes) some large is = absurd (omega (arith, large))
block-more order here interfaces place (suc n) (b ∷ bytes) some large is =
    let e : suc n - 1 ≡ n = omega arith in
    rw (is, e) (ap (λ (l : List Item). items_by here (described here interfaces (take (suc n) (b ∷ bytes)))
    (interface_number here (take (suc n) (b ∷ bytes))) (take (suc n) (b ∷ bytes)) place ++ l)
    (blocks-passed here (described here interfaces (take (suc n) (b ∷ bytes))) (place + suc n) n bytes))

-- the items so far and those to come, after a block more
pub items-more : (order here : Order) (interfaces known : List Interface) (whole items more : List Item) (place size : ℕ)
    (file : List ℕ) → 0 < length (drop place file) → 0 < size → front order (drop place file) ≡ Ok (here, size)
    → known ≡ described here interfaces (take size (drop place file))
    → more ≡ items ++ items_by here known (interface_number here (take size (drop place file)))
    (take size (drop place file)) place
    → whole ≡ items ++ items_from order interfaces place 0 (drop place file)
    → whole ≡ more ++ items_from here known (place + size) 0 (drop (place + size) file)
items-more order here interfaces known whole items more place size file some large is describes takes so_far =
    let block = take size (drop place file) in
    let first = items_by here known (interface_number here block) block place in
    let next = block-more order here interfaces place size (drop place file) some large is in
    let next-known = rw (sym describes, drop-drop size place file) at next in
    so_far
    ∙ ap (λ (l : List Item). items ++ l) next-known
    ∙ sym (append_assoc items first (items_from here known (place + size) 0 (drop (place + size) file)))
    ∙ ap (λ (l : List Item). l ++ items_from here known (place + size) 0 (drop (place + size) file)) (sym takes)
