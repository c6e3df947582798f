-- What a keyval and a `[[..]]` line say beside an element that is taken out.
--
-- A keyval's paths begin with its body's. It says nothing of the array itself, so its paths go where the body goes
-- (`keyval_shifted`). A `[[..]]` line begins the element after those that earlier lines began: before the element's
-- lines its number is lesser and stays, after them it is greater and goes down by one, as the count of earlier lines
-- does (`begun_shift`).
--
-- Theorems: `keyval_shifted`, `begun_shift` and `next_shift`.
use Rattle.std.proofs.Common.{◌≡◌, ℕ, ◌+◌, ◌<◌, ◌≤◌, Bool, true, false, cond, List, [], ◌∷◌, ◌++◌, map, refl, sym, ap}
use Rattle.std.proofs.Common.{subst, ◌∙◌, append_assoc, arith, Some, None, ◌⊎◌, inl, inr}
use Rattle.keep_syntax.specs.Tree.{Name, Value, Line}
use Rattle.keep_path.specs.Path.{Part, key, index, same_part, same_path}
use Rattle.keep_meaning.specs.Marks as marks_of
use Rattle.keep_meaning.specs.Marks.{MentionKind, past, begun, passed, Mention, below, Reading, elements_of}
use Rattle.keep_meaning.specs.Meaning.{keyval_mentions, line_mentions}
use Rattle.keep_edit_spec.specs.Look.{strip}
use Rattle.keep_edit_spec.proofs.Common.Runs.{AllOf, SomeOf, all_map, meet, IsDisjoint, IsUnder, strip_both}
use Rattle.keep_edit_spec.proofs.Common.Runs.{strip_shorter, strip-sound, same_path-sound, same_path-refl}
use Rattle.keep_edit_spec.proofs.Common.SetLaw.{IsSolidAt}
use Rattle.keep_edit_spec.proofs.Common.LineLaws.{Reaches, EndsInKey, line_closed}
use Rattle.keep_edit_spec.proofs.Common.Moves.{moved, down}
use Rattle.keep_edit_spec.proofs.Remove.KeyvalMentions.{StartsInKey, mentioned_below, mentions_keyval}
use Rattle.keep_edit_spec.proofs.Remove.Shift.{shifted, element_at, unreached, disjoint_step, prefix_same, last_same}
use Rattle.keep_edit_spec.proofs.Remove.Shift.{same_number, shifted_prefix, shifted_further, shifted_index}
use Rattle.keep_edit_spec.proofs.Remove.Shift.{shifted_below, shifted_above, shifted_same}
use Rattle.keep_edit_spec.proofs.Remove.ShiftPrefixes.{IsShift, NotPassed, elements_more, prefix_disjoint}

-- what is said of an array of tables and its elements by headers
abbrev pub array_mentions : MentionKind → Bool
array_mentions marks_of.element = true
array_mentions past = true
array_mentions begun = true
array_mentions passed = true
array_mentions _ = false

-- at the array's path nothing but that is said, and no header goes past the element
abbrev pub IsBeside : List Part → ℕ → Mention → Type 0
IsBeside prefix n m = (m.path ≡ prefix → array_mentions m.kind ≡ true) × NotPassed (element_at prefix n) m

-- how far the reading has come, in the old and the new document
pub record AreShifted (prefix : List Part) (n : ℕ) (r u : Reading) : Type 0 where
  pub tables : IsShift prefix n r.tables u.tables
  pub body : u.body ≡ shifted prefix n r.body
  pub preserved : strip (element_at prefix n) r.body ≡ None

-- ---- a keyval

-- a keyval's path beyond its body lies under the array only where the body does
abbrev IsNear : List Part → List Part → Mention → Type 0
IsNear prefix body m = Reaches prefix (body ++ m.path) → Reaches prefix body

module _ (prefix : List Part) (n : ℕ) (body : List Part) where
  further_disjoint : (x : List Part) → StartsInKey x → (Reaches prefix (body ++ x) → Reaches prefix body)
      → strip (element_at prefix n) body ≡ None → strip (element_at prefix n) (body ++ x) ≡ None
  further_disjoint x s near h = unreached (element_at prefix n) (body ++ x) (λ u.
      let v = near (index n ∷ u.0, strip_shorter prefix (index n ∷ []) (body ++ x) u.0 u.1) in
      let w : body ≡ prefix ++ v.0 = strip-sound prefix body v.0 v.1 in
      by u.0 v.0 w (sym (strip_both prefix (index n ∷ []) (v.0 ++ x))
      ∙ ap (strip (element_at prefix n)) (sym (append_assoc prefix v.0 x) ∙ ap (λ (y : List Part). y ++ x) (sym w))
      ∙ u.1))
    where
      first : (r y : List Part) (z : Part) → body ≡ prefix ++ z ∷ y → (b : Bool) → same_part (index n) z ≡ b
          → elim b [ true ↦ strip [] (y ++ x) | false ↦ None ] ≡ Some r → ⊥
      first r y z w true e t =
          let k : strip (element_at prefix n) body ≡ Some y =
          ap (strip (element_at prefix n)) w ∙ strip_both prefix (index n ∷ []) (z ∷ y)
          ∙ ap (λ (b : Bool). elim b [ true ↦ strip [] y | false ↦ None ]) e in
          let l : None ≡ Some y = sym h ∙ k in
          absurd cc
      first r y z w false e t = absurd cc

      by : (r y : List Part) → body ≡ prefix ++ y → strip (index n ∷ []) (y ++ x) ≡ Some r → ⊥
      by r [] w t =
          let z : strip (index n ∷ []) (key s.0 ∷ s.1) ≡ Some r = ap (strip (index n ∷ [])) (sym s.2) ∙ t in absurd cc
      by r (z ∷ y) w t = first r y z w (same_part (index n) z) refl t

  further_shifted : (x : List Part) → StartsInKey x → (Reaches prefix (body ++ x) → Reaches prefix body)
      → shifted prefix n (body ++ x) ≡ shifted prefix n body ++ x
  further_shifted x s near =
      shifted_further prefix n body x (λ u. inl (near u)) (λ e. subst (λ (y : List Part). down n y ≡ y) (sym s.2) refl)

  pub keyval_preserved : (ms : List Mention) → AllOf (λ m. StartsInKey m.path) ms → AllOf (IsNear prefix body) ms
      → strip (element_at prefix n) body ≡ None → AllOf (IsDisjoint (element_at prefix n)) (map (below body) ms)
  keyval_preserved [] s near h = tt
  keyval_preserved (m ∷ ms) s near h = (further_disjoint m.path s.0 near.0 h, keyval_preserved ms s.1 near.1 h)

  pub keyval_shifted : (ms : List Mention) → AllOf (λ m. StartsInKey m.path) ms → AllOf (IsNear prefix body) ms
      → map (below (shifted prefix n body)) ms ≡ map (moved (shifted prefix n)) (map (below body) ms)
  keyval_shifted [] s near = refl
  keyval_shifted (m ∷ ms) s near =
      ap (λ (l : List Mention). below (shifted prefix n body) m ∷ l) (keyval_shifted ms s.1 near.1)
      ∙ ap (λ (q : List Part).
      record { path = q; kind = m.kind } ∷ map (moved (shifted prefix n)) (map (below body) ms))
      (sym (further_shifted m.path s.0 near.0))

all_unbelow : (P : Mention → Type 0) (s : List Part) (ms : List Mention) → AllOf P (map (below s) ms)
    → AllOf (λ m. P (below s m)) ms
all_unbelow P s [] h = tt
all_unbelow P s (m ∷ ms) h = (h.0, all_unbelow P s ms h.1)

pub all_both : (P Q : Mention → Type 0) (ms : List Mention) → AllOf P ms → AllOf Q ms → AllOf (λ m. P m × Q m) ms
all_both P Q [] a b = tt
all_both P Q (m ∷ ms) a b = ((a.0, b.0), all_both P Q ms a.1 b.1)

-- a keyval says nothing of the array itself
keyval_off : (prefix : List Part) (n : ℕ) (body : List Part) (name : Name) (v : Value)
    → AllOf (IsBeside prefix n) (map (below body) (keyval_mentions name v))
    → SomeOf (IsSolidAt prefix) (map (below body) (keyval_mentions name v)) → ⊥
keyval_off prefix n body name v all s =
    let ms : List Mention = map (below body) (keyval_mentions name v) in
    let plain : AllOf (λ (m : Mention). array_mentions m.kind ≡ false) ms =
    mentioned_below (λ (a : MentionKind). array_mentions a ≡ false) body (keyval_mentions name v)
    (mentions_keyval (λ (a : MentionKind). array_mentions a ≡ false)
    (record { dot = refl; held = λ f. refl; unnamed = λ f. refl }) name v) in
    let (m, solid_m, h) =
    meet (IsSolidAt prefix) (λ (m : Mention). IsBeside prefix n m × (array_mentions m.kind ≡ false)) ms s
    (all_both (IsBeside prefix n) (λ (m : Mention). array_mentions m.kind ≡ false) ms all plain) in
    let yes : array_mentions m.kind ≡ true = h.0.0 solid_m.path in
    let no : array_mentions m.kind ≡ false = h.1 in
    absurd cc

pub near_all : (prefix : List Part) → EndsInKey prefix → (n : ℕ) (r : Reading) (l : Line) (name : Name) (v : Value)
    → line_mentions r l ≡ map (below r.body) (keyval_mentions name v)
    → AllOf (IsBeside prefix n) (map (below r.body) (keyval_mentions name v))
    → AllOf (IsNear prefix r.body) (keyval_mentions name v)
near_all prefix ends n r l name v e all =
    let ms : List Mention = map (below r.body) (keyval_mentions name v) in
    let closed : AllOf (λ m. IsUnder prefix m → SomeOf (IsSolidAt prefix) ms ⊎ Reaches prefix r.body) ms =
    subst (λ (x : List Mention). AllOf (λ m. IsUnder prefix m → SomeOf (IsSolidAt prefix) x ⊎ Reaches prefix r.body) x)
    e (line_closed prefix r l ends).each in
    all_unbelow (λ m. IsUnder prefix m → Reaches prefix r.body) r.body (keyval_mentions name v)
    (all_map (λ m. IsUnder prefix m → SomeOf (IsSolidAt prefix) ms ⊎ Reaches prefix r.body)
    (λ m. IsUnder prefix m → Reaches prefix r.body)
    (λ m f u. elim (f u) [ inl s ↦ absurd (keyval_off prefix n r.body name v all s) | inr w ↦ w ]) ms closed)

-- ---- an element

-- before the element's line, all that is begun has a lesser number; after it, a greater
abbrev pub IsStop : ℕ → ℕ → ℕ → Type 0
IsStop n a b = (b ≤ n) ⊎ (n < a)

pub record IsBegunShift (prefix : List Part) (n : ℕ) (ts us : List (List Part)) (q : List Part) : Type 0 where
  pub is : shifted prefix n (q ++ index (elements_of q ts) ∷ []) ≡ shifted prefix n q
      ++ index (elements_of (shifted prefix n q) us) ∷ []
  pub preserved : strip (element_at prefix n) (q ++ index (elements_of q ts) ∷ []) ≡ None

module _ (prefix : List Part) (ends : EndsInKey prefix) (n : ℕ) (ts us : List (List Part))
    (h : IsShift prefix n ts us) where
  begun_prefix : IsStop n (elements_of prefix ts) (elements_of prefix (ts ++ prefix ∷ []))
      → IsBegunShift prefix n ts us prefix
  begun_prefix stop =
      let a : ℕ = elements_of prefix ts in
      let more : elements_of prefix (ts ++ prefix ∷ []) ≡ a + 1 =
      elements_more prefix prefix ts ∙ ap (λ (b : Bool). a + cond b 1 0) (same_path-refl prefix) in
      let away : (a ≡ n → ⊥) → strip (element_at prefix n) (prefix ++ index a ∷ []) ≡ None = λ other.
      disjoint_step (element_at prefix n) prefix (index a) (prefix_disjoint prefix n)
      (λ w. other (same_number a n (last_same prefix prefix (index a) (index n) w))) in
      let at : shifted prefix n prefix ++ index (elements_of (shifted prefix n prefix) us) ∷ [] ≡ prefix
      ++ index (elements_of prefix us) ∷ [] =
      ap (λ (q : List Part). q ++ index (elements_of q us) ∷ []) (shifted_prefix prefix n) in
      elim h.side [
        | inl e ↦
            (let low : a < n = elim stop [ inl s ↦ omega (arith, s, more) | inr g ↦ absurd (omega (arith, g, e.1)) ] in
            record {
              is = shifted_below prefix n a e.1 ∙ ap (λ (k : ℕ). prefix ++ index k ∷ []) e.0
                  ∙ sym at;
              preserved = away (λ w. absurd (omega (arith, w, low)));
            })
        | inr e ↦
            record {
              is = shifted_above prefix n a e.1 ∙ ap (λ (k : ℕ). prefix ++ index k ∷ []) (omega (arith, e.0)) ∙ sym at;
              preserved = away (λ w. absurd (omega (arith, w, e.1)));
            }
      ]

  begun_other : (q : List Part) → strip (element_at prefix n) q ≡ None → (q ≡ prefix → ⊥)
      → IsBegunShift prefix n ts us q
  begun_other q hq other = record {
    is = shifted_index prefix n ends q (elements_of q ts) other
        ∙ ap (λ (k : ℕ). shifted prefix n q ++ index k ∷ []) (sym (h.others q hq other));
    preserved =
        disjoint_step (element_at prefix n) q (index (elements_of q ts)) hq
        (λ w. other (prefix_same q prefix (index (elements_of q ts)) (index n) w));
  }

  pub begun_shift : (q : List Part) → strip (element_at prefix n) q ≡ None
      → IsStop n (elements_of prefix ts) (elements_of prefix (ts ++ q ∷ [])) → IsBegunShift prefix n ts us q
  begun_shift q hq stop = by (same_path q prefix) refl
    where
      by : (b : Bool) → same_path q prefix ≡ b → IsBegunShift prefix n ts us q
      by true e =
          let w : q ≡ prefix = same_path-sound q prefix e in
          subst (IsBegunShift prefix n ts us) (sym w)
          (begun_prefix (subst (λ (x : List Part). IsStop n (elements_of prefix ts) (elements_of prefix (ts ++ x ∷ [])))
          w stop))
      by false e =
          begun_other q hq (λ w. let z : same_path q prefix ≡ true = ap (same_path q) (sym w) ∙ same_path-refl q in
          absurd cc)

  -- one more line of an array of tables
  pub next_shift : (q : List Part) → strip (element_at prefix n) q ≡ None
      → IsStop n (elements_of prefix ts) (elements_of prefix (ts ++ q ∷ []))
      → IsShift prefix n (ts ++ q ∷ []) (us ++ shifted prefix n q ∷ [])
  next_shift q hq stop =
      let f : List Part → List Part = shifted prefix n in
      let old : elements_of prefix (ts ++ q ∷ []) ≡ elements_of prefix ts + cond (same_path q prefix) 1 0 =
      elements_more prefix q ts in
      let same : same_path (f q) prefix ≡ same_path q prefix =
      ap (same_path (f q)) (sym (shifted_prefix prefix n))
      ∙ shifted_same prefix n q prefix hq (prefix_disjoint prefix n) in
      let new : elements_of prefix (us ++ f q ∷ []) ≡ elements_of prefix us + cond (same_path q prefix) 1 0 =
      elements_more prefix (f q) us ∙ ap (λ (b : Bool). elements_of prefix us + cond b 1 0) same in
      record {
        others = λ x hx other.
            elements_more (f x) (f q) us
            ∙ ap (λ (b : Bool). elements_of (f x) us + cond b 1 0) (shifted_same prefix n q x hq hx)
            ∙ ap (λ (k : ℕ). k + cond (same_path q x) 1 0) (h.others x hx other)
            ∙ sym (elements_more x q ts);
        side = elim h.side [
          | inl e ↦
              elim stop [
                | inl s ↦ inl (old ∙ ap (λ (k : ℕ). k + cond (same_path q prefix) 1 0) e.0 ∙ sym new, s)
                | inr g ↦ absurd (omega (arith, g, e.1))
              ]
          | inr e ↦ inr (omega (arith, old, new, e.0), omega (arith, old, e.1))
        ];
      }
