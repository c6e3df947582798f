-- What a header after an element that is taken out says: its path and the paths on its way go where the elements go.
--
-- `IsShift` compares how many elements each array has in the lines so far, in the old document and in the new: the same
-- at changed paths, but for the array itself, which has one less after the element's lines. The next step of a header
-- goes on from a path, or from the last element there. Both are the changed ones of the old document: for the array
-- itself the last element's number is one less exactly where the change makes it so. By induction over the keys this
-- holds of the whole header, and of the paths of its key parts (`way_shift`).
--
-- Theorem: `way_shift`.
use Rattle.std.proofs.Common.{◌≡◌, ℕ, zero, suc, ◌+◌, ◌-◌, ◌<◌, ◌≤◌, Bool, true, false, cond, List, [], ◌∷◌, ◌++◌, map}
use Rattle.std.proofs.Common.{refl, sym, ap, subst, ◌∙◌, arith, None, ◌⊎◌, inl, inr}
use Rattle.std.specs.Prelude.{◌==◌}
use Rattle.std.proofs.lemmas.List.{append-nil, map-append}
use Rattle.std.proofs.lemmas.List.Sums.{sum_by-append}
use Rattle.std.proofs.lemmas.Bool.{cases_lt, eqb-true}
use Rattle.keep_path.specs.Path.{Part, key, index, same_path}
use Rattle.keep_meaning.specs.Marks.{through, past, passed, Mention, elements_of, entered_path, passing_mentions}
use Rattle.keep_meaning.specs.Marks.{header_path, header_prefixes}
use Rattle.keep_meaning.specs.Nodes.{is_passed}
use Rattle.keep_edit_spec.specs.Look.{strip}
use Rattle.keep_edit_spec.specs.Lines.{key_prefixes}
use Rattle.keep_edit_spec.proofs.Common.Runs.{AllOf, all_left, all_right, all_join, IsDisjoint, same_path-sound}
use Rattle.keep_edit_spec.proofs.Common.Runs.{same_path-refl}
use Rattle.keep_edit_spec.proofs.Common.LineLaws.{EndsInKey}
use Rattle.keep_edit_spec.proofs.Common.Moves.{moved}
use Rattle.keep_edit_spec.proofs.Remove.Shift.{shifted, element_at, disjoint_step, prefix_same, last_same, same_number}
use Rattle.keep_edit_spec.proofs.Remove.Shift.{disjoint_key, disjoint_prefix, shifted_prefix, shifted_key}
use Rattle.keep_edit_spec.proofs.Remove.Shift.{shifted_index, shifted_below, shifted_above}
use Rattle.keep_edit_spec.proofs.Rename.RenamedParts.{prefixes_entered}

-- Of the lines up to some place, in the old and the new document: before the element's lines both have as many elements
-- of the array, not more than its number; after them the new one has one less.
abbrev pub IsSide : ℕ → ℕ → ℕ → Type 0
IsSide n a b = ((a ≡ b) × (a ≤ n)) ⊎ ((a ≡ suc b) × (n < a))

pub record IsShift (prefix : List Part) (n : ℕ) (ts us : List (List Part)) : Type 0 where
  pub others : (q : List Part) → strip (element_at prefix n) q ≡ None → (q ≡ prefix → ⊥)
      → elements_of (shifted prefix n q) us ≡ elements_of q ts
  pub side : IsSide n (elements_of prefix ts) (elements_of prefix us)

-- no header goes past it
abbrev pub NotPassed : List Part → Mention → Type 0
NotPassed p m = m.path ≡ p → is_passed m.kind ≡ false

positive : (a : ℕ) → (0 == a) ≡ false → 0 < a
positive zero h = absurd cc
positive (suc a) h = omega arith

not_zero : (a : ℕ) → 0 < a → (0 == a) ≡ false
not_zero a h = by (0 == a) refl
  where
    by : (b : Bool) → (0 == a) ≡ b → (0 == a) ≡ false
    by false e = e
    by true e = let z : 0 ≡ a = eqb-true 0 a e in absurd (omega (arith, h, z))

pub elements_more : (q p : List Part) (ts : List (List Part))
    → elements_of q (ts ++ p ∷ []) ≡ elements_of q ts + cond (same_path p q) 1 0
elements_more q p ts = omega (arith, sum_by-append (λ (t : List Part). cond (same_path t q) 1 0) ts (p ∷ []))

pub prefix_disjoint : (prefix : List Part) (n : ℕ) → strip (element_at prefix n) prefix ≡ None
prefix_disjoint prefix n = ap (strip (element_at prefix n)) (sym (append-nil prefix)) ∙ disjoint_prefix prefix n [] refl

-- ---- where the next key of a header goes

pub record IsEntered (prefix : List Part) (n : ℕ) (ts us : List (List Part)) (q : List Part) : Type 0 where
  pub test : (0 == elements_of (shifted prefix n q) us) ≡ (0 == elements_of q ts)
  pub is : entered_path us (shifted prefix n q) ≡ shifted prefix n (entered_path ts q)
  pub preserved : strip (element_at prefix n) (entered_path ts q) ≡ None

abbrev NotEntered : List Part → ℕ → List (List Part) → List Part → Type 0
NotEntered prefix n ts q = (0 == elements_of q ts) ≡ false → entered_path ts q ≡ element_at prefix n → ⊥

module _ (prefix : List Part) (ends : EndsInKey prefix) (n : ℕ) (ts us : List (List Part))
    (h : IsShift prefix n ts us) where
  entered_other : (q : List Part) → strip (element_at prefix n) q ≡ None → (q ≡ prefix → ⊥) → IsEntered prefix n ts us q
  entered_other q hq other =
      let e : elements_of (shifted prefix n q) us ≡ elements_of q ts = h.others q hq other in
      record {
        test = ap (λ (k : ℕ). 0 == k) e;
        is = ap (λ (k : ℕ). cond (0 == k) (shifted prefix n q) (shifted prefix n q ++ index (k - 1) ∷ [])) e
            ∙ goes (0 == elements_of q ts);
        preserved = stays (0 == elements_of q ts);
      }
    where
      goes : (b : Bool)
          → cond b (shifted prefix n q) (shifted prefix n q ++ index (elements_of q ts - 1) ∷ [])
          ≡ shifted prefix n (cond b q (q ++ index (elements_of q ts - 1) ∷ []))
      goes true = refl
      goes false = sym (shifted_index prefix n ends q (elements_of q ts - 1) other)

      stays : (b : Bool) → strip (element_at prefix n) (cond b q (q ++ index (elements_of q ts - 1) ∷ [])) ≡ None
      stays true = hq
      stays false =
          disjoint_step (element_at prefix n) q (index (elements_of q ts - 1)) hq
          (λ e. other (prefix_same q prefix (index (elements_of q ts - 1)) (index n) e))

  entered_before : elements_of prefix ts ≡ elements_of prefix us → elements_of prefix ts ≤ n
      → IsEntered prefix n ts us prefix
  entered_before e low = record {
    test = ap (λ (q : List Part). 0 == elements_of q us) (shifted_prefix prefix n) ∙ ap (λ (k : ℕ). 0 == k) (sym e);
    is = ap (entered_path us) (shifted_prefix prefix n)
        ∙ ap (λ (k : ℕ). cond (0 == k) prefix (prefix ++ index (k - 1) ∷ [])) (sym e)
        ∙ goes (0 == elements_of prefix ts);
    preserved = stays (0 == elements_of prefix ts) refl;
  }
    where
      goes : (b : Bool)
          → cond b prefix (prefix ++ index (elements_of prefix ts - 1) ∷ [])
          ≡ shifted prefix n (cond b prefix (prefix ++ index (elements_of prefix ts - 1) ∷ []))
      goes true = sym (shifted_prefix prefix n)
      goes false = sym (shifted_below prefix n (elements_of prefix ts - 1) (omega (arith, low)))

      stays : (b : Bool) → (0 == elements_of prefix ts) ≡ b
          → strip (element_at prefix n) (cond b prefix (prefix ++ index (elements_of prefix ts - 1) ∷ [])) ≡ None
      stays true t = prefix_disjoint prefix n
      stays false t =
          disjoint_step (element_at prefix n) prefix (index (elements_of prefix ts - 1)) (prefix_disjoint prefix n)
          (λ w. let k : elements_of prefix ts - 1 ≡ n =
          same_number (elements_of prefix ts - 1) n
          (last_same prefix prefix (index (elements_of prefix ts - 1)) (index n) w) in
          absurd (omega (arith, k, low, positive (elements_of prefix ts) t)))

  entered_after : elements_of prefix ts ≡ suc (elements_of prefix us) → n < elements_of prefix ts
      → NotEntered prefix n ts prefix → IsEntered prefix n ts us prefix
  entered_after e high free =
      let some : (0 == elements_of prefix ts) ≡ false = not_zero (elements_of prefix ts) (omega (arith, high)) in
      let at : entered_path ts prefix ≡ prefix ++ index (elements_of prefix ts - 1) ∷ [] =
      ap (λ (b : Bool). cond b prefix (prefix ++ index (elements_of prefix ts - 1) ∷ [])) some in
      let other : elements_of prefix ts - 1 ≡ n → ⊥ = λ k. free some (at ∙ ap (λ (m : ℕ). prefix ++ index m ∷ []) k) in
      let above : n < elements_of prefix ts - 1 =
      disjoint_above (elements_of prefix ts - 1) (omega (arith, high)) other in
      let more : (0 == elements_of prefix us) ≡ false = not_zero (elements_of prefix us) (omega (arith, above, e)) in
      let lower : elements_of prefix us - 1 ≡ elements_of prefix ts - 1 - 1 = omega (arith, e) in
      record {
        test = ap (λ (q : List Part). 0 == elements_of q us) (shifted_prefix prefix n) ∙ more ∙ sym some;
        is = ap (entered_path us) (shifted_prefix prefix n)
            ∙ ap (λ (b : Bool). cond b prefix (prefix ++ index (elements_of prefix us - 1) ∷ [])) more
            ∙ ap (λ (m : ℕ). prefix ++ index m ∷ []) lower
            ∙ sym (shifted_above prefix n (elements_of prefix ts - 1) above)
            ∙ ap (shifted prefix n) (sym at);
        preserved = ap (strip (element_at prefix n)) at
            ∙ disjoint_step (element_at prefix n) prefix (index (elements_of prefix ts - 1)) (prefix_disjoint prefix n)
            (λ w. other (same_number (elements_of prefix ts - 1) n
            (last_same prefix prefix (index (elements_of prefix ts - 1)) (index n) w)));
      }
    where
      disjoint_above : (m : ℕ) → n ≤ m → (m ≡ n → ⊥) → n < m
      disjoint_above m low other = elim (cases_lt n m) [ inl l ↦ l | inr g ↦ absurd (other (omega (arith, low, g))) ]

  entered_is : (q : List Part) → strip (element_at prefix n) q ≡ None → NotEntered prefix n ts q
      → IsEntered prefix n ts us q
  entered_is q hq free = by (same_path q prefix) refl
    where
      at_prefix : NotEntered prefix n ts prefix → IsEntered prefix n ts us prefix
      at_prefix free' = elim h.side [ inl e ↦ entered_before e.0 e.1 | inr e ↦ entered_after e.0 e.1 free' ]

      by : (b : Bool) → same_path q prefix ≡ b → IsEntered prefix n ts us q
      by true e =
          let w : q ≡ prefix = same_path-sound q prefix e in
          subst (IsEntered prefix n ts us) (sym w) (at_prefix (subst (NotEntered prefix n ts) w free))
      by false e =
          entered_other q hq (λ w. let z : same_path q prefix ≡ true = ap (same_path q) (sym w) ∙ same_path-refl q in
          absurd cc)

  -- ---- on the way

  passing_preserved : (q : List Part) → strip (element_at prefix n) q ≡ None → IsEntered prefix n ts us q
      → AllOf (IsDisjoint (element_at prefix n)) (passing_mentions ts q)
  passing_preserved q hq e = by (0 == elements_of q ts)
    where
      by : (b : Bool)
          → AllOf (IsDisjoint (element_at prefix n))
          (cond b (record { path = q; kind = through } ∷ [])
          (record { path = q; kind = past } ∷ record { path = entered_path ts q; kind = passed } ∷ []))
      by true = (hq, tt)
      by false = (hq, (e.preserved, tt))

  passing_shifted : (q : List Part) → IsEntered prefix n ts us q
      → passing_mentions us (shifted prefix n q) ≡ map (moved (shifted prefix n)) (passing_mentions ts q)
  passing_shifted q e =
      ap (λ (b : Bool).
      cond b (record { path = shifted prefix n q; kind = through } ∷ [])
      (record { path = shifted prefix n q; kind = past }
      ∷ record { path = entered_path us (shifted prefix n q); kind = passed } ∷ [])) e.test
      ∙ by (0 == elements_of q ts)
    where
      by : (b : Bool)
          → cond b (record { path = shifted prefix n q; kind = through } ∷ [])
          (record { path = shifted prefix n q; kind = past }
          ∷ record { path = entered_path us (shifted prefix n q); kind = passed } ∷ [])
          ≡ map (moved (shifted prefix n))
          (cond b (record { path = q; kind = through } ∷ [])
          (record { path = q; kind = past } ∷ record { path = entered_path ts q; kind = passed } ∷ []))
      by true = refl
      by false =
          ap (λ (x : List Part).
          record { path = shifted prefix n q; kind = past } ∷ record { path = x; kind = passed } ∷ []) e.is

  not_entered : (q : List Part) → AllOf (NotPassed (element_at prefix n)) (passing_mentions ts q)
      → NotEntered prefix n ts q
  not_entered q all some at =
      let two =
      subst (λ (b : Bool).
      AllOf (NotPassed (element_at prefix n))
      (cond b (record { path = q; kind = through } ∷ [])
      (record { path = q; kind = past } ∷ record { path = entered_path ts q; kind = passed } ∷ []))) some all in
      let no : is_passed passed ≡ false = two.1.0 at in
      absurd cc

pub record IsWayShift (prefix : List Part) (n : ℕ) (ts us : List (List Part)) (at : List Part)
    (keys : List (List ℕ)) : Type 0 where
  pub prefixes : header_prefixes us (shifted prefix n at) keys
      ≡ map (moved (shifted prefix n)) (header_prefixes ts at keys)
  pub path : header_path us (shifted prefix n at) keys ≡ shifted prefix n (header_path ts at keys)
  pub way_preserved : AllOf (IsDisjoint (element_at prefix n)) (header_prefixes ts at keys)
  pub path_preserved : strip (element_at prefix n) (header_path ts at keys) ≡ None
  pub parts : map (header_path us (shifted prefix n at)) (key_prefixes keys)
      ≡ map (shifted prefix n) (map (header_path ts at) (key_prefixes keys))
  pub parts_preserved : AllOf (λ q. strip (element_at prefix n) q ≡ None) (map (header_path ts at) (key_prefixes keys))

-- A header's path and its way, where it does not go past the element.
pub way_shift : (prefix : List Part) → EndsInKey prefix → (n : ℕ) (ts us : List (List Part)) → IsShift prefix n ts us
    → (at : List Part) (keys : List (List ℕ)) → strip (element_at prefix n) at ≡ None
    → AllOf (NotPassed (element_at prefix n)) (header_prefixes ts at keys) → IsWayShift prefix n ts us at keys
way_shift prefix ends n ts us h at [] hat all =
    record {
      prefixes = refl;
      path = refl;
      way_preserved = tt;
      path_preserved = hat;
      parts = refl;
      parts_preserved = tt;
    }
way_shift prefix ends n ts us h at (k ∷ []) hat all =
    record {
      prefixes = refl;
      path = sym (shifted_key prefix n at k);
      way_preserved = tt;
      path_preserved = disjoint_key prefix n at k hat;
      parts = ap (λ (q : List Part). q ∷ []) (sym (shifted_key prefix n at k));
      parts_preserved = (disjoint_key prefix n at k hat, tt);
    }
way_shift prefix ends n ts us h at (k ∷ l ∷ ks) hat all =
    let q : List Part = at ++ key k ∷ [] in
    let hq : strip (element_at prefix n) q ≡ None = disjoint_key prefix n at k hat in
    let to : List Part = entered_path ts q in
    let P : Mention → Type 0 = NotPassed (element_at prefix n) in
    let e = entered_is prefix ends n ts us h q hq
    (not_entered prefix ends n ts us h q (all_left P (passing_mentions ts q) (header_prefixes ts to (l ∷ ks)) all)) in
    let ih =
    way_shift prefix ends n ts us h to (l ∷ ks) e.preserved
    (all_right P (passing_mentions ts q) (header_prefixes ts to (l ∷ ks)) all) in
    let next : shifted prefix n at ++ key k ∷ [] ≡ shifted prefix n q = sym (shifted_key prefix n at k) in
    record {
      prefixes = ap (λ (x : List Part). passing_mentions us x ++ header_prefixes us (entered_path us x) (l ∷ ks)) next
          ∙ ap (λ (x : List Part). passing_mentions us (shifted prefix n q) ++ header_prefixes us x (l ∷ ks)) e.is
          ∙ ap (λ (x : List Mention). passing_mentions us (shifted prefix n q) ++ x) ih.prefixes
          ∙ ap (λ (x : List Mention). x ++ map (moved (shifted prefix n)) (header_prefixes ts to (l ∷ ks)))
          (passing_shifted prefix ends n ts us h q e)
          ∙ sym (map-append (moved (shifted prefix n)) (passing_mentions ts q) (header_prefixes ts to (l ∷ ks)));
      path = ap (λ (x : List Part). header_path us (entered_path us x) (l ∷ ks)) next
          ∙ ap (λ (x : List Part). header_path us x (l ∷ ks)) e.is
          ∙ ih.path;
      way_preserved =
          all_join (IsDisjoint (element_at prefix n)) (passing_mentions ts q) (header_prefixes ts to (l ∷ ks))
          (passing_preserved prefix ends n ts us h q hq e) ih.way_preserved;
      path_preserved = ih.path_preserved;
      parts = ap (λ (ps : List (List Part)). (shifted prefix n at ++ key k ∷ []) ∷ ps)
          (prefixes_entered us (shifted prefix n at) k (l ∷ ks)
          ∙ ap (λ (x : List Part). map (header_path us (entered_path us x)) (key_prefixes (l ∷ ks))) next
          ∙ ap (λ (x : List Part). map (header_path us x) (key_prefixes (l ∷ ks))) e.is
          ∙ ih.parts
          ∙ ap (map (shifted prefix n)) (sym (prefixes_entered ts at k (l ∷ ks))))
          ∙ ap (λ (x : List Part).
          x ∷ map (shifted prefix n) (map (header_path ts at) (map (λ prefix. k ∷ prefix) (key_prefixes (l ∷ ks)))))
          next;
      parts_preserved = (
        hq,
        subst (AllOf (λ (x : List Part). strip (element_at prefix n) x ≡ None))
            (sym (prefixes_entered ts at k (l ∷ ks))) ih.parts_preserved,
      );
    }
