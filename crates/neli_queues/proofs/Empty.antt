-- An empty datagram adds nothing.
use Rattle.std.proofs.Common.{◌≡◌, ◌++◌, ◌∷◌, [], ℕ, Bool, List, Option, Some, None, refl, sym, option_map}
use Rattle.neli_reader.specs.Agreement.{untyped_layout}
use Rattle.neli_reader.specs.Cuts.{cut_by, cut_of}
use Rattle.neli_deliveries.specs.declared.delivery.Delivery.{Delivery}
use Rattle.neli_deliveries.specs.Deliveries.{datagram_share}
use Rattle.neli_queues.proofs.Pieces.{append-none}

module _ (port : ℕ) (is_open : ℕ → Bool) where
  datagram_share-none : (w : Option ℕ) (groups : List ℕ) → datagram_share port is_open w ([], None) groups ≡ []
  datagram_share-none None [] = refl
  datagram_share-none None (g ∷ groups) = refl
  datagram_share-none (Some q) [] = refl
  datagram_share-none (Some q) (g ∷ groups) = refl

  cut_of-empty : (bytes : List ℕ) → bytes ≡ [] → cut_of untyped_layout bytes ≡ ([], None)
  unfolding cut_of cut_by
  cut_of-empty [] e = refl
  cut_of-empty (b ∷ bytes) e = cc

  pub received_empty : (bytes : List ℕ) → bytes ≡ [] → (groups : List ℕ) (w : Option ℕ)
      (waiting : Option (List Delivery))
      → waiting ≡ option_map (λ ds. ds ++ datagram_share port is_open w (cut_of untyped_layout bytes) groups) waiting
  received_empty bytes e groups w waiting = rw (cut_of-empty bytes e, datagram_share-none w groups)
      (sym (append-none waiting))
