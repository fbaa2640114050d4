-- Handles: attributes for look-ups, owned or lent.
use Rattle.std.specs.Prelude.{◌≡◌, List}
use Rattle.neli_list.specs.declared.handle.AttrHandle.{AttrHandle}
use Rattle.neli_list.specs.declared.handle.AttrHandle.TheVariants.{Owned, Borrowed}

-- the attributes of a handle, by the function that gives those of an owned list
abbrev pub attrs_by : {O I : Type 0} → (O → List I) → AttrHandle O I → List I
attrs_by attrs_of (Owned list) = attrs_of list
attrs_by attrs_of (Borrowed attrs) = attrs.now

-- the same where an owned list is seen as its attributes
abbrev pub attrs_in : {I : Type 0} → AttrHandle (List I) I → List I
attrs_in = attrs_by (λ list. list)

-- the handle owns this list
abbrev pub IsOwner : {O I : Type 0} → O → AttrHandle O I → Type 0
IsOwner owned (Owned list) = list ≡ owned
IsOwner owned (Borrowed attrs) = ⊥

-- these attributes are lent to the handle
abbrev pub IsLent : {O I : Type 0} → List I → AttrHandle O I → Type 0
IsLent lent (Owned list) = ⊥
IsLent lent (Borrowed attrs) = attrs.now ≡ lent
