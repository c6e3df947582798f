-- What is stored is the same if each list is, and a write to the list of values changes one value.
--
-- Theorems: `same_flat`: what is stored is the same if each list is; `value_seam`: which value the list has at a
-- number; `set_seam`: what a write changes there.
use Rattle.std.proofs.Common.{◌≡◌, ℕ, List, ◌∷◌, ◌++◌, length, get_or, sym, ap, ◌∙◌, Some, slice_get}
use Rattle.std.proofs.Math.ListN.{set}
use Rattle.std.proofs.Math.Seq.{set-append_seam, get_or-append_seam}
use Rattle.std.proofs.lemmas.Option.{get_or_from_slice_get}
use Rattle.keep_types.specs.declared.leaf.Leaf.{Leaf}
use Rattle.keep_types.specs.declared.syntax.Statement.{Statement}
use Rattle.keep_types.specs.declared.syntax.KeyPart.{KeyPart}
use Rattle.keep_types.specs.declared.syntax.ValueInfo.{ValueInfo}
use Rattle.keep_syntax_store.specs.declared.values.PackedValue.{PackedValue}
use Rattle.keep_syntax_store.specs.declared.packed_vec.PackedVec.{PackedVec}
use Rattle.keep_syntax_store.specs.Flat.{Flat, values_in}

pub same_flat : (a b : Flat) → a.kinds ≡ b.kinds → a.starts ≡ b.starts → a.statements ≡ b.statements → a.keys ≡ b.keys
    → a.values ≡ b.values → a ≡ b
same_flat a b e1 e2 e3 e4 e5 =
    ap (λ (x : List Leaf). record a { kinds = x }) e1 ∙ ap (λ (x : List ℕ). record a { kinds = b.kinds; starts = x }) e2
    ∙ ap (λ (x : List Statement). record a { kinds = b.kinds; starts = b.starts; statements = x }) e3
    ∙ ap (λ (x : List KeyPart). record b { keys = x; values = a.values }) e4
    ∙ ap (λ (x : List ValueInfo). record b { values = x }) e5

-- ---- a value is changed

-- the item at a place, and what a write there changes
at_seam : {A : Type 0} (vs prefix : List A) (item : A) (back : List A) (number : ℕ) (d : A) → length prefix ≡ number
    → vs ≡ prefix ++ (item ∷ back) → get_or vs number d ≡ item
at_seam {A} vs prefix item back number d len is =
    ap (λ (l : List A). get_or l number d) is ∙ ap (λ (n : ℕ). get_or (prefix ++ (item ∷ back)) n d) (sym len)
    ∙ get_or-append_seam prefix item back d

set_at_seam : {A : Type 0} (vs prefix : List A) (item : A) (back : List A) (number : ℕ) (a : A) → length prefix ≡ number
    → vs ≡ prefix ++ (item ∷ back) → set vs number a ≡ prefix ++ (a ∷ back)
set_at_seam {A} vs prefix item back number a len is =
    ap (λ (l : List A). set l number a) is ∙ ap (λ (n : ℕ). set (prefix ++ (item ∷ back)) n a) (sym len)
    ∙ set-append_seam prefix item back a

module _ (vs : PackedVec ValueInfo PackedValue) (prefix : List ValueInfo) (info : ValueInfo) (back : List ValueInfo)
    (number : ℕ) (len : length prefix ≡ number) (is : values_in vs ≡ prefix ++ (info ∷ back)) where
  -- what the list has there
  pub value_seam : (v : ValueInfo) → slice_get (values_in vs) number ≡ Some v → v ≡ info
  value_seam v e =
      sym (get_or_from_slice_get (values_in vs) number v v e) ∙ at_seam (values_in vs) prefix info back number v len is

  -- and what a write changes there
  pub set_seam : (v : ValueInfo) → set (values_in vs) number v ≡ prefix ++ (v ∷ back)
  set_seam v = set_at_seam (values_in vs) prefix info back number v len is
