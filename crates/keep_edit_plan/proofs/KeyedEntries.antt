-- The entry whose key is one part alone, by the key parts that stand where the entries begin.
--
-- The keys before it begin with other parts, so a path of that key passes them; its own key is no longer, since `=`
-- comes after its first part (`is_alone`). An induction over the entries follows their places in the text
-- (`entries_hit`).
--
-- Theorems: `value_hit`; `keyed_here` and `keyed_next`: the loop that finds it.
use Rattle.std.proofs.Common.{◌≡◌, ℕ, zero, suc, ◌+◌, ◌<◌, Bool, true, false, ◌&&◌, List, [], ◌∷◌, ◌++◌, length, drop}
use Rattle.std.proofs.Common.{take, map, get_or, slice_index, refl, sym, ap, ◌∙◌, subst, arith, length-append}
use Rattle.std.proofs.Common.{take_at, drop_at, Option, Some, None}
use Rattle.std.specs.Prelude.{codes}
use Rattle.std.specs.Str.{bytes_eq}
use Rattle.std.specs.List.{AllByRecursion, flat_map, list_all, prefix_len}
use Rattle.std.proofs.Math.Seq.{drop-cons}
use Rattle.std.proofs.lemmas.Bool.{and_parts}
use Rattle.std.proofs.lemmas.List.{append-nil}
use Rattle.keep_types.specs.declared.leaf.Leaf.{Leaf}
use Rattle.keep_types.specs.declared.leaf.Profile.TheVariants.{Strict, Wide}
use Rattle.keep_token.specs.Abnf.{is_bare, is_ws}
use Rattle.keep_token.specs.Scanning.{first, key_at}
use Rattle.keep_token.proofs.Shared.{key_again, leaf_wider, some_injective}
use Rattle.keep_syntax.specs.Tree.{Body, Entries, Further, Gap, Name, Value, Written, comma_leaves, entry, inline, none}
use Rattle.keep_syntax.specs.Tree.{further_leaves, text_of, value_text}
use Rattle.keep_syntax.specs.Grammar.{AreEntries, IsFurther, IsKeyPart, IsName, IsSpace, IsValue, in_inline, place_in}
use Rattle.keep_path.specs.Path.{key, same_path}
use Rattle.keep_meaning.specs.Meaning.{further_value, key_value, step, string_value}
use Rattle.keep_edit_spec.proofs.Shared.{text_of-append}
use Rattle.keep_edit_plan.specs.OpenKeyvals.{IsKeyedAt, IsOther, IsOtherKey, IsOwnKey}
use Rattle.keep_edit_plan.specs.OpenValues.{AreLaid}
use Rattle.keep_edit_plan.specs.declared.open_value.EntryPlace.{EntryPlace}
use Rattle.keep_edit_plan.proofs.OtherKeys.{after_part, entry_at, further_on, further_split, more_stops, part_is}
use Rattle.keep_edit_plan.proofs.TakenEntries.{IsHit, end_len, round, round_split, to_end}

-- ---- the loop

module _ (name text : List ℕ) (places : List EntryPlace) (i end start : ℕ) (within : i < length places)
    (found : (n : ℕ) → IsKeyedAt name text end n (drop i places) → IsKeyedAt name text 1 (i + n) places)
    (at : start ≡ end + (get_or places i (record { gap = 0; len = 0 })).gap) where
  abbrev p : EntryPlace
  p = get_or places i (record { gap = 0; len = 0 })

  split : drop i places ≡ p ∷ drop (suc i) places
  split = drop-cons places i (record { gap = 0; len = 0 }) within

  pub keyed_here : (number : ℕ) → number ≡ i → IsOwnKey name (drop start text) → IsKeyedAt name text 1 number places
  keyed_here number is own =
      let own' : IsOwnKey name (drop (end + p.gap) text) = subst (λ (k : ℕ). IsOwnKey name (drop k text)) at own in
      subst (λ (k : ℕ). IsKeyedAt name text 1 k places) (let e : i + 0 ≡ number = omega arith in e)
      (found 0 (subst (IsKeyedAt name text end 0) (sym split) own'))

  pub keyed_next : (next : ℕ) → next ≡ start + p.len → IsOtherKey name (drop start text) → (n : ℕ)
      → IsKeyedAt name text next n (drop (i + 1) places) → IsKeyedAt name text 1 (i + 1 + n) places
  keyed_next next next_is other n rest =
      let other' : IsOtherKey name (drop (end + p.gap) text) =
      subst (λ (k : ℕ). IsOtherKey name (drop k text)) at other in
      let e : next ≡ end + p.gap + p.len = omega arith in
      let one : i + 1 ≡ suc i = omega arith in
      let rest' : IsKeyedAt name text (end + p.gap + p.len) n (drop (suc i) places) =
      subst (λ (k : ℕ). IsKeyedAt name text k n (drop (suc i) places)) e
      (subst (λ (k : ℕ). IsKeyedAt name text next n (drop k places)) one rest) in
      subst (λ (k : ℕ). IsKeyedAt name text 1 k places) (let f : i + suc n ≡ i + 1 + n = omega arith in f)
      (found (suc n) (subst (IsKeyedAt name text end (suc n)) (sym split) (other', rest')))

-- ---- a key of one part

-- the byte after a run
after_run : (p : ℕ → Bool) (a : List ℕ) (c : ℕ) (x : List ℕ) → list_all p a ≡ true → p c ≡ false
    → slice_index (a ++ (c ∷ x)) (prefix_len p (a ++ (c ∷ x))) ≡ c
after_run p [] c x all stop = rw stop refl
after_run p (d ∷ a) c x all stop =
    let parts = and_parts (p d) (list_all p a) all in
    let m : ℕ = prefix_len p (a ++ (c ∷ x)) in
    let long : prefix_len p (d ∷ (a ++ (c ∷ x))) ≡ suc m = rw parts.0 (omega arith) in
    ap (slice_index (d ∷ (a ++ (c ∷ x)))) long ∙ after_run p a c x parts.1 stop

-- after white space, a byte that is none
space_then : (g : Gap) (c : ℕ) (x : List ℕ) → IsSpace g → is_ws c ≡ false
    → slice_index (text_of g ++ (c ∷ x)) (prefix_len is_ws (text_of g ++ (c ∷ x))) ≡ c
space_then [] c x h stop = after_run is_ws [] c x refl stop
space_then (w ∷ []) c x h stop =
    subst (λ (t : List ℕ). slice_index (t ++ (c ∷ x)) (prefix_len is_ws (t ++ (c ∷ x))) ≡ c) (sym (append-nil w.text))
    (after_run is_ws w.text c x h.1.1 stop)
space_then (w ∷ v ∷ more) c x h stop = absurd h

-- no dot comes after the first part
is_alone : (more : List Further) (before : Gap) (x rest : List ℕ) → AllByRecursion (IsFurther Strict) more
    → rest ≡ text_of (flat_map further_leaves more) ++ (text_of before ++ (0x3D ∷ x))
    → slice_index rest (prefix_len is_ws rest) ≡ 0x3D → more ≡ []
is_alone [] before x rest h e k = refl
is_alone (f ∷ fs) before x rest h e k =
    let is : rest ≡ text_of f.before
    ++ (0x2E ∷ (text_of f.after ++ (f.part.text ++ (text_of (flat_map further_leaves fs)
    ++ (text_of before ++ (0x3D ∷ x)))))) =
    e ∙ further_split f fs (text_of before ++ (0x3D ∷ x)) in
    let dot : slice_index rest (prefix_len is_ws rest) ≡ 0x2E =
    subst (λ (t : List ℕ). slice_index t (prefix_len is_ws t) ≡ 0x2E) (sym is)
    (space_then f.before 0x2E _ h.0.before refl) in
    absurd (omega arith)

and_true : (b : Bool) → b ≡ true → (b && true) ≡ true
and_true true e = refl
and_true false e = absurd cc

no_both : (a b : Bool) → a ≡ false → (a && b) ≡ false
no_both false b e = refl
no_both true b e = absurd cc

same_own : (a : List ℕ) (more : List Further) (name : List ℕ) → bytes_eq a name ≡ true → more ≡ []
    → same_path (map key (a ∷ map further_value more)) (key name ∷ []) ≡ true
same_own a [] name e alone = and_true (bytes_eq a name) e
same_own a (f ∷ fs) name e alone = absurd cc

same_other : (a : List ℕ) (more : List Further) (name : List ℕ) → bytes_eq a name ≡ false
    → same_path (map key (a ∷ map further_value more)) (key name ∷ []) ≡ false
same_other a more name e = no_both (bytes_eq a name) (same_path (map key (map further_value more)) []) e

-- ---- what is read

record IsOwnPart (name : List ℕ) (w : Written) (rest : List ℕ) : Type 0 where
  means : bytes_eq (key_value w) name ≡ true
  equals : slice_index rest (prefix_len is_ws rest) ≡ 0x3D

own_is : (name : List ℕ) (w : Written) (rest : List ℕ) → IsKeyPart Strict w → is_bare (first rest) ≡ false
    → IsOwnKey name (w.text ++ rest) → IsOwnPart name w rest
own_is name w rest valid stop own =
    let t : List ℕ = w.text ++ rest in
    let again : key_at Wide t ≡ Some (w.leaf, length w.text) =
    key_again Wide w.leaf w.text rest valid.0 (leaf_wider w.leaf w.text valid.1) stop in
    let same : ◌≡◌ {A = Leaf × ℕ} (own.leaf, own.len) (w.leaf, length w.text) =
    some_injective (sym own.part ∙ again) in
    let leaf_is : own.leaf ≡ w.leaf = ap (λ (x : Leaf × ℕ). x.0) same in
    let len_is : own.len ≡ length w.text = ap (λ (x : Leaf × ℕ). x.1) same in
    record {
      means =
          subst (λ (x : List ℕ). bytes_eq (string_value w.leaf x) name ≡ true) (take_at w.text rest (length w.text)
          refl)
          (subst (λ (n : ℕ). bytes_eq (string_value w.leaf (take n t)) name ≡ true) len_is
          (subst (λ (l : Leaf). bytes_eq (string_value l (take own.len t)) name ≡ true) leaf_is own.means));
      equals =
          subst (λ (x : List ℕ). slice_index x (prefix_len is_ws x) ≡ 0x3D) (drop_at w.text rest (length w.text) refl)
          (subst (λ (n : ℕ). slice_index (drop n t) (prefix_len is_ws (drop n t)) ≡ 0x3D) len_is own.equals);
    }

-- ---- along the entries

module _ (name bytes : List ℕ) where
  own_hit : (k end : ℕ) (lead : List ℕ) (gap : Gap) (nm : Name) (body : Body) (nested : Entries) (after : Gap)
      (comma : Option Gap) (rest : Entries) (right : List ℕ) (p : EntryPlace) → IsName Strict nm
      → p.gap ≡ length lead + length (text_of gap)
      → drop end bytes ≡ round lead gap (entry (Some nm) body nested after comma rest) right
      → IsOwnKey name (drop (end + p.gap) bytes) → same_path (step k (Some nm)) (key name ∷ []) ≡ true
  own_hit k end lead gap nm body nested after comma rest right p valid eg here own =
      let (y, at) = entry_at bytes end lead gap nm body nested after comma rest right p eg here in
      let part = own_is name nm.key.first (after_part nm y) valid.key.first
      (more_stops nm.key.more nm.before (text_of nm.after ++ y) valid.key.more valid.before)
      (subst (IsOwnKey name) at own) in
      same_own (key_value nm.key.first) nm.key.more name part.means
      (is_alone nm.key.more nm.before (text_of nm.after ++ y) (after_part nm y) valid.key.more refl part.equals)

  other_missed : (k end : ℕ) (lead : List ℕ) (gap : Gap) (nm : Name) (body : Body) (nested : Entries) (after : Gap)
      (comma : Option Gap) (rest : Entries) (right : List ℕ) (p : EntryPlace) → IsName Strict nm
      → p.gap ≡ length lead + length (text_of gap)
      → drop end bytes ≡ round lead gap (entry (Some nm) body nested after comma rest) right
      → IsOtherKey name (drop (end + p.gap) bytes) → same_path (step k (Some nm)) (key name ∷ []) ≡ false
  other_missed k end lead gap nm body nested after comma rest right p valid eg here other =
      let (y, at) = entry_at bytes end lead gap nm body nested after comma rest right p eg here in
      same_other (key_value nm.key.first) nm.key.more name
      (part_is (IsOther name) nm.key.first (after_part nm y) valid.key.first
      (more_stops nm.key.more nm.before (text_of nm.after ++ y) valid.key.more valid.before)
      (subst (IsOtherKey name) at other))

  entries_hit : (k end n : ℕ) (lead : List ℕ) (gap : Gap) (es : Entries) (right : List ℕ) (places : List EntryPlace)
      → AreEntries Strict in_inline es → AreLaid (length lead + length (text_of gap)) es places
      → drop end bytes ≡ round lead gap es right → IsKeyedAt name bytes end n places → IsHit (key name ∷ []) k n es
  entries_hit k end n lead gap es right [] valid laid here keyed = absurd keyed
  entries_hit k end n lead gap none right (p ∷ ps) valid laid here keyed = absurd laid
  entries_hit k end n lead gap (entry None body nested after comma rest) right (p ∷ ps) valid laid here keyed =
      absurd valid.0
  entries_hit k end zero lead gap (entry (Some nm) body nested after comma rest) right (p ∷ ps) valid laid here keyed =
      own_hit k end lead gap nm body nested after comma rest right p valid.0 laid.0 here keyed
  entries_hit k end (suc n) lead gap (entry (Some nm) body nested after None none) right (p ∷ []) valid laid here
      keyed =
      absurd keyed.1
  entries_hit k end (suc n) lead gap (entry (Some nm) body nested after None none) right (p ∷ q ∷ ps) valid laid here
      keyed = absurd laid.1.1
  entries_hit k end (suc n) lead gap (entry (Some nm) body nested after None (entry a b c d e f)) right (p ∷ ps) valid
      laid here keyed = absurd valid.4
  entries_hit k end (suc n) lead gap (entry (Some nm) body nested after (Some g) rest) right (p ∷ ps) valid laid here
      keyed =
      let lead' : List ℕ = text_of after ++ codes "," in
      let size : length (text_of after) + length (text_of (comma_leaves (Some g))) ≡ length lead' + length (text_of g) =
      omega (arith, length-append (text_of after) (codes ",")) in
      let laid' : AreLaid (length lead' + length (text_of g)) rest ps =
      subst (λ (m : ℕ). AreLaid m rest ps) size laid.1.1 in
      let there : drop (end + p.gap + p.len) bytes ≡ round lead' g rest right =
      ap (λ (m : ℕ). drop m bytes) (let e : end + p.gap + p.len ≡ end + (p.gap + p.len) = omega arith in e)
      ∙ further_on bytes end (p.gap + p.len) (to_end lead gap (Some nm) body nested) (round lead' g rest right)
      (here ∙ round_split lead gap (Some nm) body nested after g rest right)
      (end_len lead gap (Some nm) body nested p laid.0 laid.1.0) in (
        other_missed k end lead gap nm body nested after (Some g) rest right p valid.0 laid.0 here keyed.0,
        entries_hit (k + 1) (end + p.gap + p.len) n lead' g rest right ps valid.5 laid' there keyed.1,
      )

-- ---- of a value

pub value_hit : (name bytes : List ℕ) (places : List EntryPlace) (n : ℕ) (first : Gap) (v : Value)
    → bytes ≡ value_text v → IsValue Strict v → v.body ≡ inline first → AreLaid (length (text_of first)) v.nested places
    → IsKeyedAt name bytes 1 n places → IsHit (key name ∷ []) 0 n v.nested
value_hit name bytes places n first v spelled valid is laid keyed =
    let valid' : AreEntries Strict in_inline v.nested =
    subst (λ (b : Body). AreEntries Strict (place_in b) v.nested) is valid.nested in
    let text : bytes ≡ 0x7B ∷ round [] first v.nested (codes "}") =
    spelled ∙ ap (λ (b : Body). value_text (record { body = b; nested = v.nested })) is ∙ simp text_of-append refl in
    entries_hit name bytes 0 1 n [] first v.nested (codes "}") places valid'
    (subst (λ (m : ℕ). AreLaid m v.nested places)
    (let e : length (text_of first) ≡ length {A = ℕ} [] + length (text_of first) = omega arith in e) laid)
    (ap (drop 1) text) keyed
