-- Paths that are compared step by step, as those of edits that are made at once, and lists of keys in the same way.
--
-- Where each step up to a number is the same, the paths begin alike. A path is at another or below it exactly if it
-- begins with all of its steps, so it has no fewer. Two paths with new keys in place of their last steps are the same
-- exactly if the keys are, and the steps before these. Two lists of keys that agree as far as both go are the same, or
-- the shorter is the first of the longer. If they do not agree so, they are apart. So those of as many keys are the
-- same or apart.
--
-- Theorems: `same_takes`, `same_steps`: what is compared; `agree_before`: one step more; `begins_with`, `within`: of a
-- path at another or below it; `none_unless`: of one that is not; `before_last`, `renamed_parts`, `renamed_alike`: of
-- paths with new keys; `take_parent`, `take_before`, `own_beside`, `own_or_apart`: of paths and what is above them;
-- `read_key`: a key that is compared; `keys_before_last`, `keys_before_index`: a path of some keys and one step or two
-- more; `same_or_apart`: of as many keys; `paths_apart`, `keys_apart`, `apart_unless_agree`: of others.
use Rattle.std.proofs.Common.{◌≡◌, ◌≢◌, ◌≤◌, ◌<◌, ◌-◌, ◌+◌, ◌∷◌, ◌++◌, [], ℕ, zero, suc, List, length, take, drop}
use Rattle.std.proofs.Common.{◌↔◌, Bool, true, false, Option, Some, None, refl, sym, subst, ap, ap₂, ◌∙◌, arith}
use Rattle.std.proofs.Common.{inl, inr}
use Rattle.std.proofs.Common.{Global, String, get_or, map, min, option_map, slice_get, string_bytes}
use Rattle.std.specs.Prelude.{◌⊎◌}
use Rattle.std.specs.Bool.{Decides}
use Rattle.std.proofs.lemmas.Bool.{cases_lt}
use Rattle.std.proofs.lemmas.List.{length-map, length-take-le, take-append-drop, take-map, take_all}
use Rattle.std.proofs.lemmas.Option.{get_or_from_slice_get, slice_get-map, slice_get_read}
use Rattle.std.proofs.Math.Seq.{take-suc}
use Rattle.keep_path.specs.Path.{Part, beside, index, key, last_part, same_part, same_path, strip, without_last}
use Rattle.keep_path.proofs.Shared.{last_pushed, path_decides, strip_append}
use Rattle.keep_edit_spec.specs.AppendedHeaders.{AreSameOrApart}
use Rattle.keep_edit_spec.specs.Runs.{AreApart}
use Rattle.keep_edit_spec.proofs.Shared.{without_last-snoc}
use Rattle.keep_edit_plan.specs.Headers.{key_texts}

-- the steps of two paths, or the keys of two lists, from one number on and up to another are the same
abbrev pub AgreeFrom : {A : Type 0} → List A → List A → ℕ → ℕ → Type 0
AgreeFrom path other first end = (k : ℕ) → first ≤ k → k < end → slice_get path k ≡ slice_get other k

pub same_takes : {A : Type 0} (n : ℕ) (path other : List A) → AgreeFrom path other 0 n → take n path ≡ take n other
same_takes zero path other h = refl
same_takes (suc n) [] [] h = refl
same_takes (suc n) [] (q ∷ other) h = let e : None ≡ Some q = h 0 (omega arith) (omega arith) in absurd cc
same_takes (suc n) (p ∷ path) [] h = let e : Some p ≡ None = h 0 (omega arith) (omega arith) in absurd cc
same_takes {A = A} (suc n) (p ∷ path) (q ∷ other) h =
    let e : Some p ≡ Some q = h 0 (omega arith) (omega arith) in
    let first : p ≡ q = cc in
    ap₂ (λ (r : A) (l : List A). r ∷ l) first
    (same_takes n path other (λ k low lt. h (suc k) (omega arith) (omega (arith, lt))))

step_in_take : {A : Type 0} (n : ℕ) (path : List A) (k : ℕ) → k < n → slice_get (take n path) k ≡ slice_get path k
step_in_take zero path k lt = absurd (omega (arith, lt))
step_in_take (suc n) [] k lt = refl
step_in_take (suc n) (p ∷ path) zero lt = refl
step_in_take (suc n) (p ∷ path) (suc k) lt = step_in_take n path k (omega (arith, lt))

pub same_steps : {A : Type 0} (n : ℕ) (path other : List A) → take n path ≡ take n other → AgreeFrom path other 0 n
same_steps {A = A} n path other same k low lt =
    sym (step_in_take n path k lt) ∙ ap (λ (l : List A). slice_get l k) same ∙ step_in_take n other k lt

-- one step more, going backwards
pub agree_before : {A : Type 0} (path other : List A) (n end : ℕ) → AgreeFrom path other n end
    → slice_get path (n - 1) ≡ slice_get other (n - 1) → AgreeFrom path other (n - 1) end
agree_before path other n end after here k low lt = elim (cases_lt k n) [
  | inl before ↦
      let is : k ≡ n - 1 = omega arith in
      ap (slice_get path) is ∙ here ∙ ap (slice_get other) (sym is)
  | inr past ↦ after k past lt
]

-- ---- a path at another or below it

same_step : (p q : Part) → same_part p q ≡ true → p ≡ q
same_step p q e = let whole : p ∷ [] ≡ q ∷ [] = (path_decides (p ∷ []) (q ∷ [])).0 (rw e refl) in cc

-- it begins with the steps of that
pub begins_with : (above path : List Part) → strip above path ≢ None
    → (length above ≤ length path) × (take (length above) path ≡ above)
begins_with [] path h = (omega arith, refl)
begins_with (a ∷ above) [] h = absurd (h refl)
begins_with (a ∷ above) (p ∷ path) h = by (same_part a p) refl (begins_with above path) h
  where
    by : (b : Bool) → same_part a p ≡ b
        → (strip above path ≢ None → (length above ≤ length path) × (take (length above) path ≡ above))
        → (◌≡◌ {A = Option (List Part)} (elim b [ true ↦ strip above path | false ↦ None ]) None → ⊥)
        → (length (a ∷ above) ≤ length (p ∷ path)) × (take (length (a ∷ above)) (p ∷ path) ≡ a ∷ above)
    by true e rest h =
        let (many, steps) = rest h in
        (omega (arith, many), ap₂ (λ (q : Part) (l : List Part). q ∷ l) (sym (same_step a p e)) steps)
    by false e rest h = absurd (h refl)

-- and what begins with them is at it or below it
pub within : (n : ℕ) (above path : List Part) → n ≡ length above
    → (take n path ≡ take n above) ↔ (strip above path ≢ None)
within n above path all =
    let every : take n above ≡ above = take_all n above (omega (arith, all)) in (
      λ same none.
          let whole : path ≡ above ++ drop n path =
          sym (take-append-drop n path) ∙ ap (λ (l : List Part). l ++ drop n path) (same ∙ every) in
          let some : Some (drop n path) ≡ None =
          sym (strip_append above (drop n path)) ∙ ap (strip above) (sym whole) ∙ none in
          absurd cc,
      λ h. ap (λ (k : ℕ). take k path) all ∙ (begins_with above path h).1 ∙ sym every,
    )

-- ---- paths with new keys in place of their last steps

pub before_last : (path : List Part) → without_last path ≡ take (length path - 1) path
before_last [] = refl
before_last (p ∷ []) = refl
before_last (p ∷ q ∷ path) =
    ap (λ (l : List Part). p ∷ l) (before_last (q ∷ path))
    ∙ ap (λ (n : ℕ). take n (p ∷ q ∷ path))
    (let e : suc (length (q ∷ path) - 1) ≡ length (p ∷ q ∷ path) - 1 = omega arith in e)

pub length_before : (path : List Part) → length (without_last path) ≡ length path - 1
length_before path =
    ap (λ (l : List Part). length l) (before_last path) ∙ length-take-le (length path - 1) path (omega arith)

-- where they are the same, so are the keys, and what comes before them
pub renamed_parts : (n : ℕ) (path other : List Part) (name more : List ℕ) → n ≡ length path - 1
    → beside path name ≡ beside other more
    → (name ≡ more) × (n ≡ length other - 1) × (take n path ≡ take n other)
renamed_parts n path other name more long e =
    let keys : Some (key name) ≡ Some (key more) =
    sym (last_pushed (without_last path) (key name)) ∙ ap last_part e ∙ last_pushed (without_last other) (key more) in
    let before : without_last path ≡ without_last other =
    sym (without_last-snoc (without_last path) (key name)) ∙ ap without_last e
    ∙ without_last-snoc (without_last other) (key more) in
    let wide : n ≡ length other - 1 =
    long ∙ sym (length_before path) ∙ ap (λ (l : List Part). length l) before ∙ length_before other in (
      cc,
      wide,
      ap (λ (k : ℕ). take k path) long ∙ sym (before_last path) ∙ before ∙ before_last other
          ∙ ap (λ (k : ℕ). take k other) (sym wide),
    )

pub renamed_alike : (n : ℕ) (path other : List Part) (name more : List ℕ) → n ≡ length path - 1
    → n ≡ length other - 1 → name ≡ more
    → (take n path ≡ take n other) ↔ (beside path name ≡ beside other more)
renamed_alike n path other name more long wide keys = (
  λ same.
      let before : without_last path ≡ without_last other =
      before_last path ∙ ap (λ (k : ℕ). take k path) (sym long) ∙ same ∙ ap (λ (k : ℕ). take k other) wide
      ∙ sym (before_last other) in
      ap₂ (λ (l : List Part) (text : List ℕ). l ++ key text ∷ []) before keys,
  λ e. (renamed_parts n path other name more long e).2,
)

one_less : (k : ℕ) (path : List Part) → suc k ≤ length path → take k path ≡ without_last (take (suc k) path)
one_less zero [] many = refl
one_less zero (p ∷ path) many = refl
one_less (suc k) [] many = absurd (omega (arith, many))
one_less (suc k) (p ∷ []) many = absurd (omega (arith, many))
one_less (suc k) (p ∷ q ∷ path) many =
    ap (λ (l : List Part). p ∷ l) (one_less k (q ∷ path) (omega (arith, many)))

-- the first steps but the last of them
pub take_parent : (n m : ℕ) (path : List Part) → m ≡ n - 1 → n ≤ length path → take m path ≡ without_last (take n path)
take_parent zero m path is many =
    let none : m ≡ 0 = omega (arith, is) in ap (λ (k : ℕ). take k path) none
take_parent (suc n) m path is many =
    let less : m ≡ n = omega (arith, is) in ap (λ (k : ℕ). take k path) less ∙ one_less n path many

pub take_before : (n : ℕ) (path : List Part) → n < length path → take n (without_last path) ≡ take n path
take_before zero path lt = refl
take_before (suc n) [] lt = refl
take_before (suc n) (p ∷ []) lt = absurd (omega (arith, lt))
take_before (suc n) (p ∷ q ∷ path) lt =
    ap (λ (l : List Part). p ∷ l) (take_before n (q ∷ path) (omega (arith, lt)))

-- with its own key a path stays as it is
pub own_beside : (path : List Part) (name : List ℕ) → slice_get path (length path - 1) ≡ Some (key name)
    → beside path name ≡ path
own_beside [] name is = absurd cc
own_beside (p ∷ []) name is = cc
own_beside (p ∷ q ∷ path) name is =
    ap (λ (l : List Part). p ∷ l) (own_beside (q ∷ path) name
    (ap (λ (n : ℕ). slice_get (p ∷ q ∷ path) n)
    (let e : suc (length (q ∷ path) - 1) ≡ length (p ∷ q ∷ path) - 1 = omega arith in e) ∙ is))

-- ---- lists of keys

-- the key of this number, as it is compared
pub read_key : (keys : List (String Global)) (n : ℕ) (own : String Global) → n < length keys
    → own ≡ get_or keys n own → slice_get (key_texts keys) n ≡ Some (string_bytes own)
read_key keys n own lt is =
    slice_get-map string_bytes keys n
    ∙ ap (λ (o : Option (String Global)). option_map string_bytes o)
    (slice_get_read keys (length keys) n own refl lt is)

-- the steps but the last, if each is compared with a key
pub keys_before_last : (path : List Part) (keys : List (String Global)) (n : ℕ) → length path ≡ length keys + 1
    → length keys ≤ n → ((k : ℕ) → k < n → slice_get path k ≡ slice_get (map key (key_texts keys)) k)
    → without_last path ≡ map key (key_texts keys)
keys_before_last path keys n long many each =
    let steps : List Part = map key (key_texts keys) in
    let few : length steps ≤ length keys =
    omega (arith, length-map (key_texts keys) key, length-map keys string_bytes) in
    before_last path ∙ ap (λ (k : ℕ). take k path) (let e : length path - 1 ≡ length keys = omega (arith, long) in e)
    ∙ same_takes (length keys) path steps (λ k low lt. each k (omega (arith, lt, many)))
    ∙ take_all (length keys) steps few

-- and those but the last of one step more, if that one is a number
pub keys_before_index : (path : List Part) (keys : List (String Global)) (n : ℕ) → length path ≡ length keys + 2
    → ((k : ℕ) → k < length keys → slice_get path k ≡ slice_get (map key (key_texts keys)) k)
    → slice_get path (length keys) ≡ Some (index n)
    → without_last path ≡ map key (key_texts keys) ++ index n ∷ []
keys_before_index path keys n long each there =
    let steps : List Part = map key (key_texts keys) in
    let few : length steps ≤ length keys =
    omega (arith, length-map (key_texts keys) key, length-map keys string_bytes) in
    before_last path
    ∙ ap (λ (k : ℕ). take k path) (let e : length path - 1 ≡ suc (length keys) = omega (arith, long) in e)
    ∙ take-suc path (length keys) (index n) (omega (arith, long))
    ∙ ap₂ (λ (a : List Part) (b : Part). a ++ b ∷ [])
    (same_takes (length keys) path steps (λ k low lt. each k (omega (arith, lt))) ∙ take_all (length keys) steps few)
    (get_or_from_slice_get path (length keys) (index n) (index n) there)

same_keys : (keys more : List (List ℕ)) → map key keys ≡ map key more → keys ≡ more
same_keys [] [] e = refl
same_keys [] (b ∷ more) e = absurd cc
same_keys (a ∷ keys) [] e = absurd cc
same_keys (a ∷ keys) (b ∷ more) e =
    let first : a ≡ b = cc in
    let rest : map key keys ≡ map key more = cc in
    ap₂ (λ (k : List ℕ) (l : List (List ℕ)). k ∷ l) first (same_keys keys more rest)

pub none_unless : (o : Option (List Part)) → (o ≢ None → ⊥) → o ≡ None
none_unless None h = refl
none_unless (Some path) h = absurd (h (λ e. cc))

-- A path that is not above another is that one, or that one is not below it.
pub own_or_apart : (P : List Part → Type 0) (p path : List Part) → P p
    → ((n : ℕ) → n ≡ length p → n < length path → ¬ P (take n path)) → (p ≡ path) ⊎ (strip p path ≡ None)
own_or_apart P p path has lacks = by (same_path p path) refl
  where
    by : (b : Bool) → same_path p path ≡ b → (p ≡ path) ⊎ (strip p path ≡ None)
    by true e = inl ((path_decides p path).0 e)
    by false e = inr (none_unless (strip p path) (λ h.
        (let (many, begins) = begins_with p path h in elim (cases_lt (length p) (length path)) [
          | inl less ↦ lacks (length p) refl less (subst P (sym begins) has)
          | inr past ↦
              (let whole : p ≡ path = sym begins ∙ take_all (length p) path past in
              let yes : same_path p path ≡ true = (path_decides p path).1 whole in
              absurd cc)
        ])))

-- Keys begin with others exactly if these agree with the first of them.
first_keys : (n : ℕ) (keys more : List (List ℕ)) → n ≡ length keys
    → (take n keys ≡ take n more) ↔ (strip (map key keys) (map key more) ≢ None)
first_keys n keys more all =
    let (there, back) =
    within n (map key keys) (map key more) (all ∙ sym (length-map keys key)) in (
      λ same. there (take-map key n more ∙ ap (map key) (sym same) ∙ sym (take-map key n keys)),
      λ h. same_keys (take n keys) (take n more) (sym (take-map key n keys) ∙ sym (back h) ∙ take-map key n more),
    )

no_fewer : (keys more : List (List ℕ)) → strip (map key keys) (map key more) ≢ None → length keys ≤ length more
no_fewer keys more h =
    omega (arith, (begins_with (map key keys) (map key more) h).0, length-map keys key, length-map more key)

all_alike : (keys more : List (List ℕ)) → length keys ≡ length more
    → strip (map key keys) (map key more) ≢ None → keys ≡ more
all_alike keys more long h =
    sym (take_all (length keys) keys (omega arith)) ∙ (first_keys (length keys) keys more refl).1 h
    ∙ take_all (length keys) more (omega (arith, long))

pub same_or_apart : (keys more : List (List ℕ)) → length keys ≡ length more → AreSameOrApart keys more
same_or_apart keys more long = by (same_path (map key keys) (map key more)) (path_decides (map key keys) (map key more))
  where
    by : (b : Bool) → Decides b (map key keys ≡ map key more) → AreSameOrApart keys more
    by true d = inl (same_keys keys more (d.0 refl))
    by false d =
        let differ : keys ≢ more = λ e. let yes : false ≡ true = d.1 (ap (map key) e) in absurd cc in
        inr (
          none_unless (strip (map key keys) (map key more)) (λ h. differ (all_alike keys more long h)),
          none_unless (strip (map key more) (map key keys)) (λ h. differ (sym (all_alike more keys (sym long) h))),
        )

-- ---- neither at the other or below it

no_longer_apart : (n : ℕ) (path other : List Part) → n ≡ length path → length path ≤ length other
    → (take n path ≢ take n other) ↔ AreApart path other
no_longer_apart n path other all few =
    let (below, same_below) = within n path other all in (
      λ differ. (
        none_unless (strip path other) (λ h. differ (sym (same_below h))),
        none_unless (strip other path) (λ h.
            let many = (begins_with other path h).0 in
            differ ((within n other path (omega (arith, all, few, many))).1 h)),
      ),
      λ apart same. below (sym same) apart.0,
    )

pub paths_apart : (n : ℕ) (path other : List Part) → n ≡ min (length path) (length other)
    → (take n path ≢ take n other) ↔ AreApart path other
paths_apart n path other least = elim (cases_lt (length other) (length path)) [
  | inl fewer ↦
      let (there, back) = no_longer_apart n other path (omega (arith, least, fewer)) (omega (arith, fewer)) in (
        λ differ. let apart = there (λ same. differ (sym same)) in (apart.1, apart.0),
        λ apart same. back (apart.1, apart.0) (sym same),
      )
  | inr many ↦ no_longer_apart n path other (omega (arith, least, many)) many
]

-- no more keys than the others
no_more_apart : (n : ℕ) (keys more : List (List ℕ)) → n ≡ length keys → length keys ≤ length more
    → (take n keys ≢ take n more) ↔ AreApart (map key keys) (map key more)
no_more_apart n keys more all few =
    let (begins, agree) = first_keys n keys more all in (
      λ differ. (
        none_unless (strip (map key keys) (map key more)) (λ h. differ (agree h)),
        none_unless (strip (map key more) (map key keys)) (λ h.
            let many = no_fewer more keys h in
            let (begin, turn) = first_keys n more keys (omega (arith, all, few, many)) in
            differ (sym (turn h))),
      ),
      λ apart same. begins same apart.0,
    )

pub keys_apart : (n : ℕ) (keys more : List (List ℕ)) → n ≡ min (length keys) (length more)
    → (take n keys ≢ take n more) ↔ AreApart (map key keys) (map key more)
keys_apart n keys more least = elim (cases_lt (length more) (length keys)) [
  | inl fewer ↦
      let (there, back) = no_more_apart n more keys (omega (arith, least, fewer)) (omega (arith, fewer)) in (
        λ differ. let apart = there (λ same. differ (sym same)) in (apart.1, apart.0),
        λ apart same. back (apart.1, apart.0) (sym same),
      )
  | inr many ↦ no_more_apart n keys more (omega (arith, least, many)) many
]

pub apart_unless_agree : (n : ℕ) (keys more : List (List ℕ)) → n ≡ min (length keys) (length more)
    → length keys ≢ length more → (take n keys ≢ take n more) ↔ AreSameOrApart keys more
apart_unless_agree n keys more least differ =
    let (there, back) = keys_apart n keys more least in (
      λ h. inr (there h),
      λ h same. elim h [
        | inl e ↦ differ (ap (λ (l : List (List ℕ)). length l) e)
        | inr apart ↦ back apart same
      ],
    )
