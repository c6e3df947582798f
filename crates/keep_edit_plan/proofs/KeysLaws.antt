-- The steps of a path that an insert writes are keys.
--
-- Theorems: `base_keys`: where no step after a prefix is an index, none is from the base on from which dots lead to the
-- prefix; `keys_utf8`: the keys of a path are in UTF-8.
use Rattle.std.proofs.Common.{◌≡◌, ℕ, zero, suc, ◌+◌, ◌-◌, ◌<◌, ◌≤◌, Bool, true, false, ◌||◌, List, [], ◌∷◌, ◌++◌}
use Rattle.std.proofs.Common.{length, take, drop, slice_get, refl, sym, ap, ◌∙◌, arith, Some}
use Rattle.std.specs.Prelude.{IsUtf8}
use Rattle.std.specs.List.{list_any, AllByRecursion}
use Rattle.std.proofs.lemmas.List.{take-append-drop}
use Rattle.std.proofs.lemmas.List.Folds.{list_any-append}
use Rattle.keep_syntax.specs.Tree.{Document}
use Rattle.keep_path.specs.Path.{Part, key, index, AreUtf8}
use Rattle.keep_types.specs.declared.node.Origin.{Origin}
use Rattle.keep_types.specs.declared.node.Origin.TheVariants as origin
use Rattle.keep_meaning.specs.Nodes.{is_dotted, value_number}
use Rattle.keep_edit_spec.specs.Look.{is_index, keys_in, last_part}
use Rattle.keep_edit_spec.proofs.Shared.{EndsInKey, IsDottedNode, dotted_ends, dotted_node, mention_with_number}
use Rattle.keep_edit_plan.specs.Inserting.{IsBase, is_dotted_origin, origin_of}
use Rattle.keep_edit_plan.proofs.HolderLaws.{taken_more}
use Rattle.keep_edit_plan.proofs.KeyvalSteps.{index_here, no_index_left}

last_snoc : (q : List Part) (x : Part) → last_part (q ++ x ∷ []) ≡ Some x
last_snoc [] x = refl
last_snoc (a ∷ []) x = refl
last_snoc (a ∷ b ∷ q) x = last_snoc (b ∷ q) x

pub dotted_of : (p : Origin) → is_dotted_origin p ≡ true → (n : ℕ) × (p ≡ origin.Dotted n)
dotted_of (origin.Dotted n) h = (n, refl)
dotted_of origin.Root h = absurd cc
dotted_of (origin.Value n) h = absurd cc
dotted_of (origin.Header n) h = absurd cc
dotted_of (origin.Element n) h = absurd cc
dotted_of (origin.Through n) h = absurd cc
dotted_of origin.Tables h = absurd cc

-- a path that dots lead to ends in a key
ends_in_key : (p : List Part) (s : Document) → is_dotted_origin (origin_of p s) ≡ true → EndsInKey p
ends_in_key p s h =
    let (n, e) = dotted_of (origin_of p s) h in
    let node : IsDottedNode p s n = dotted_node p s n e in
    dotted_ends p s (mention_with_number is_dotted value_number p s n node.number)

step_at : (a : List Part) (n : ℕ) → n < length a → (p : Part) × (slice_get a n ≡ Some p)
step_at [] n h = absurd (omega (arith, h))
step_at (p ∷ ps) zero h = (p, refl)
step_at (p ∷ ps) (suc n) h = step_at ps n (omega (arith, h))

key_at : (a : List Part) (s : Document) (n : ℕ) (p : Part) → slice_get a n ≡ Some p
    → is_dotted_origin (origin_of (take (suc n) a) s) ≡ true → is_index p ≡ false
key_at a s n p is dot =
    let (prefix, k, e) = ends_in_key (take (suc n) a) s dot in
    let same : Some p ≡ Some (key k) =
    sym (last_snoc (take n a) p) ∙ ap last_part (sym (taken_more a n p is) ∙ e) ∙ last_snoc prefix (key k) in
    let here : p ≡ key k = cc in
    ap is_index here

keys_after : (a : List Part) (s : Document) (k n : ℕ) → n + k ≡ length a
    → ((m : ℕ) → n < m → m ≤ length a → is_dotted_origin (origin_of (take m a) s) ≡ true)
    → list_any is_index (drop n a) ≡ false
keys_after a s zero n e dots = no_index_left a n (omega (arith, e))
keys_after a s (suc k) n e dots =
    let (p, is) = step_at a n (omega (arith, e)) in
    index_here a n (suc n) p is refl
    ∙ ap (λ (b : Bool). b || list_any is_index (drop (suc n) a))
    (key_at a s n p is (dots (suc n) (omega arith) (omega (arith, e))))
    ∙ keys_after a s k (suc n) (omega (arith, e)) (λ m low high. dots m (omega (arith, low)) high)

drop_prefix : (n : ℕ) (a r : List Part) → n ≤ length a → drop n (a ++ r) ≡ drop n a ++ r
drop_prefix zero [] r h = refl
drop_prefix zero (x ∷ a) r h = refl
drop_prefix (suc n) [] r h = absurd (omega (arith, h))
drop_prefix (suc n) (x ∷ a) r h = drop_prefix n a r (omega (arith, h))

-- from the base of a table on that dots lead to
pub base_keys : (path a : List Part) (s : Document) (from : ℕ) → take (length a) path ≡ a → IsBase a s from
    → list_any is_index (drop (length a) path) ≡ false → list_any is_index (drop from path) ≡ false
base_keys path a s from prefix base rest =
    let whole : path ≡ a ++ drop (length a) path =
    sym (take-append-drop (length a) path) ∙ ap (λ (q : List Part). q ++ drop (length a) path) prefix in
    ap (λ (q : List Part). list_any is_index (drop from q)) whole
    ∙ ap (list_any is_index) (drop_prefix from a (drop (length a) path) base.within)
    ∙ list_any-append is_index (drop from a) (drop (length a) path)
    ∙ ap (λ (b : Bool). b || list_any is_index (drop (length a) path))
    (keys_after a s (length a - from) from (omega (arith, base.within)) base.dots)
    ∙ rest

-- the keys of a path are in UTF-8
pub keys_utf8 : (path : List Part) → AreUtf8 path → AllByRecursion IsUtf8 (keys_in path)
keys_utf8 [] h = tt
keys_utf8 (key text ∷ path) h = (h.0, keys_utf8 path h.1)
keys_utf8 (index n ∷ path) h = keys_utf8 path h
