-- The paths of edits that are made at once, by numbers that stand for them: with one more, and of an edit that leaves
-- alone those whose paths they are.
--
-- Each path has one number, so a path whose number is none of them is none of those paths. A rename of a path whose
-- number is none of them, nor that of any path above it, is at none of those paths and below none; and if the number
-- of its new path is none of them, it makes another path than those do.
--
-- Theorems: `text_added`: one more key; `step_more`, `step_past`, `key_more`, `all_keys`, `hashed_beside`: a hasher
-- that is given steps; `number_added`: one more path; `none_above`: a path that does not begin with another;
-- `rename_alone`, `element_alone`, `alone_as`: an edit that leaves alone those seen; `key_allowed`, `allowed_as`: one
-- that they allow; `was_added`, `more_seen`: the edits of a list that are seen.
use Rattle.std.proofs.Common.{◌≡◌, ◌≤◌, ◌<◌, ◌+◌, ◌-◌, ◌==◌, ◌∷◌, ◌++◌, ◌∙◌, [], ℕ, zero, suc, All, Bool, Bor, List}
use Rattle.std.proofs.Common.{BuildHasherDefault, FoldHasher, Global, None, inl, inr, Some, String, ap, arith, cond}
use Rattle.std.proofs.Common.{false, fold}
use Rattle.std.proofs.Common.{get_or, length, map, option_map, refl, slice_get, string_bytes, subst, sym, take, true}
use Rattle.std.specs.Prelude.{Err, IfOk, IsTrue, Ok, Result, bytes_eq}
use Rattle.std.specs.Hash.FoldHasher.{initial}
use Rattle.std.specs.HashSet.{HashSet, Updates, contains_by}
use Rattle.std.specs.Result.{result_unwrap_or}
use Rattle.std.specs.declared.alloc.AllocError.{AllocError}
use Rattle.std.proofs.lemmas.List.{length-map, take_all}
use Rattle.std.proofs.lemmas.List.Elements.{All-push, All-weaker}
use Rattle.std.proofs.lemmas.Option.{slice_get-map}
use Rattle.std.proofs.lemmas.List.Sums.{fold_push}
use Rattle.keep_path.specs.Path.{Part, beside, key, strip, without_last}
use Rattle.keep_edit_plan.specs.Headers.{key_texts}
use Rattle.keep_edit_runs.specs.declared.outline.Outline.{Outline}
use Rattle.keep_edit_runs.specs.declared.outline.Outline.TheVariants.{Element, Insert, Remove, Rename, Set, Table}
use Rattle.keep_edit_runs.specs.Runs.{Allows, LeavesAlone}
use Rattle.keep_edit_runs.specs.Seen.{HasPath, HasPathsOf, IsSeen}
use Rattle.keep_edit_runs.specs.declared.seen.SeenKeys.{SeenKeys}
use Rattle.keep_edit_runs.proofs.AlikeLaws.{before_last, begins_with, length_before, none_unless, own_or_apart}
use Rattle.keep_edit_runs.proofs.AlikeLaws.{read_key}
use Rattle.keep_edit_runs.proofs.AlikeLaws.{same_or_apart, take_before}

-- ---- one more key

kept_key : (b had has : Bool) → has ≡ cond b true had → had ≡ true → has ≡ true
kept_key true had has is h = is
kept_key false had has is h = is ∙ h

-- keys that are kept, and whether one is among them
abbrev pub Texts : Type 0
Texts = HashSet (Bor (List ℕ)) (BuildHasherDefault FoldHasher)

abbrev pub HasText : Texts → List ℕ → Type 0
HasText keys text = IsTrue (contains_by (λ k. bytes_eq text k.now) keys)

pub text_added : (old new : Texts) (k : Bor (List ℕ)) → Updates (λ x y. bytes_eq x.now y.now) old new k true
    → HasText new k.now × ((text : List ℕ) → HasText old text → HasText new text)
text_added old new k updates = (
  updates.1,
  λ text had.
      let q : Bor (List ℕ) = record { ref_ptr = (0, 0); now = text } in
      kept_key (bytes_eq k.now text) _ _ (updates.0 q) had,
)

-- ---- the number of a path

next_step : (f : FoldHasher → Part → FoldHasher) (h : FoldHasher) (path : List Part) (n : ℕ) (p : Part)
    → slice_get path n ≡ Some p → fold f h (take (suc n) path) ≡ f (fold f h (take n path)) p
next_step f h [] n p is = absurd cc
next_step f h (q ∷ path) zero p is = let same : q ≡ p = cc in ap (f h) same
next_step f h (q ∷ path) (suc n) p is = next_step f (f h q) path n p is

-- one step more
pub step_more : (f : FoldHasher → Part → FoldHasher) (path : List Part) (n : ℕ) (p : Part) (h : FoldHasher)
    → slice_get path n ≡ Some p → h ≡ fold f initial (take n path) → f h p ≡ fold f initial (take (n + 1) path)
step_more f path n p h is before =
    let more : suc n ≡ n + 1 = omega arith in
    ap (λ (g : FoldHasher). f g p) before ∙ sym (next_step f initial path n p is)
    ∙ ap (λ (k : ℕ). fold f initial (take k path)) more

-- and none
pub step_past : (f : FoldHasher → Part → FoldHasher) (path : List Part) (n : ℕ) (h : FoldHasher)
    → slice_get path n ≡ None → h ≡ fold f initial (take n path) → h ≡ fold f initial (take (n + 1) path)
step_past f path n h is before =
    let many = past path n is in
    before ∙ ap (fold f initial) (take_all n path many ∙ sym (take_all (n + 1) path (omega (arith, many))))
  where
    past : (xs : List Part) (k : ℕ) → slice_get xs k ≡ None → length xs ≤ k
    past [] k e = omega arith
    past (q ∷ xs) zero e = absurd cc
    past (q ∷ xs) (suc k) e = omega (arith, past xs k e)

-- one key of a header more
pub key_more : (f : FoldHasher → Part → FoldHasher) (keys : List (String Global)) (n : ℕ) (own : String Global)
    (text : List ℕ) (h : FoldHasher) → n < length keys → own ≡ get_or keys n own → text ≡ string_bytes own
    → h ≡ fold f initial (take n (map key (key_texts keys)))
    → f h (key text) ≡ fold f initial (take (n + 1) (map key (key_texts keys)))
key_more f keys n own text h lt is same before =
    step_more f (map key (key_texts keys)) n (key text) h
    (slice_get-map key (key_texts keys) n ∙ ap (option_map key) (read_key keys n own lt is)
    ∙ ap (λ (t : List ℕ). Some (key t)) (sym same)) before

-- and all
pub all_keys : (keys : List (String Global)) (n : ℕ) → length keys ≤ n
    → take n (map key (key_texts keys)) ≡ map key (key_texts keys)
all_keys keys n many =
    take_all n (map key (key_texts keys))
    (omega (arith, many, length-map (key_texts keys) key, length-map keys string_bytes))

-- another key in place of the last step
pub hashed_beside : (f : FoldHasher → Part → FoldHasher) (path : List Part) (name : List ℕ) (h : FoldHasher)
    → h ≡ fold f initial (take (length path - 1) path) → f h (key name) ≡ fold f initial (beside path name)
hashed_beside f path name h is =
    ap (λ (g : FoldHasher). f g (key name)) (is ∙ ap (fold f initial) (sym (before_last path)))
    ∙ sym (fold_push f initial (without_last path) (key name))

-- ---- one more path

-- numbers that are kept, and whether one is among them
abbrev pub Numbers : Type 0
Numbers = HashSet ℕ (BuildHasherDefault FoldHasher)

abbrev pub HasNumber : Numbers → ℕ → Type 0
HasNumber numbers n = IsTrue (contains_by (λ k. n == k) numbers)

pub number_added : (old new : Numbers) (n : ℕ) → Updates ◌==◌ old new n true
    → HasNumber new n × ((k : ℕ) → HasNumber old k → HasNumber new k)
number_added old new n updates = (updates.1, λ k had. kept_key (n == k) _ _ (updates.0 k) had)

-- ---- edits that leave one another alone

-- A path is not at another or below it if it does not begin with that.
pub none_above : (P : List Part → Type 0) (p path : List Part) → P p
    → ((n : ℕ) → n ≡ length p → n ≤ length path → ¬ P (take n path)) → strip p path ≡ None
none_above P p path has lacks =
    none_unless (strip p path) (λ h.
    let (many, begins) = begins_with p path h in lacks (length p) refl many (subst P (sym begins) has))

pub alone_as : (seen : SeenKeys) (f x y : Outline) → seen.first ≡ f → x ≡ y
    → ((e : Outline) → HasPathsOf seen f e → LeavesAlone e y) → (e : Outline) → IsSeen seen e → LeavesAlone e x
alone_as seen f x y first is all e h =
    subst (LeavesAlone e) (sym is) (all e (subst (λ g. HasPathsOf seen g e) first h))

module _ (seen : SeenKeys) where
  pub rename_alone : (f path : List Part) (v name : Bor (List ℕ))
      → ((n : ℕ) → n ≤ length path → ¬ HasPath seen (take n path)) → ¬ HasPath seen (beside path name.now)
      → (e : Outline) → HasPathsOf seen (Rename f v) e → LeavesAlone e (Rename path name)
  rename_alone f path v name lacks new (Insert p) h = absurd h
  rename_alone f path v name lacks new (Remove p) h = absurd h
  rename_alone f path v name lacks new (Set p) h = absurd h
  rename_alone f path v name lacks new (Rename p w) (has, its) = record {
    below = none_above (HasPath seen) p path has (λ n is many. lacks n many);
    new = λ same. new (subst (HasPath seen) same its);
  }
  rename_alone f path v name lacks new (Table ks) h = absurd h
  rename_alone f path v name lacks new (Element ks) h = absurd h

  -- each of those allows the new key of a rename
  pub key_allowed : (f path : List Part) (v name : Bor (List ℕ))
      → ((n : ℕ) → n ≤ length (without_last path) → ¬ HasPath seen (take n (without_last path)))
      → ¬ HasPath seen (beside path name.now)
      → (e : Outline) → HasPathsOf seen (Rename f v) e → Allows e (Rename path name)
  key_allowed f path v name lacks new (Insert p) h = absurd h
  key_allowed f path v name lacks new (Remove p) h = absurd h
  key_allowed f path v name lacks new (Set p) h = absurd h
  key_allowed f path v name lacks new (Rename p w) (has, its) =
      elim (own_or_apart (HasPath seen) p path has (λ n is less.
      (let short : n ≤ length (without_last path) = omega (arith, less, length_before path) in
      λ there. lacks n short (subst (HasPath seen) (sym (take_before n path (omega (arith, less)))) there)))) [
        | inl same ↦ inl same
        | inr below ↦ inr (record { below = below; new = λ same. new (subst (HasPath seen) same its) })
      ]
  key_allowed f path v name lacks new (Table ks) h = absurd h
  key_allowed f path v name lacks new (Element ks) h = absurd h

-- elements with as many keys
pub element_alone : (seen : SeenKeys) (first more : Bor (List (String Global))) → IsTrue seen.are_alike
    → length first.now ≡ length more.now → (e : Outline) → HasPathsOf seen (Element first) e
    → LeavesAlone e (Element more)
element_alone seen first more alike same (Insert p) h = absurd h
element_alone seen first more alike same (Remove p) h = absurd h
element_alone seen first more alike same (Set p) h = absurd h
element_alone seen first more alike same (Rename p w) h = absurd h
element_alone seen first more alike same (Table ks) h = absurd h
element_alone seen first more alike same (Element ks) h =
    same_or_apart (key_texts ks.now) (key_texts more.now)
    (omega (arith, h alike, same, length-map ks.now string_bytes, length-map more.now string_bytes))

pub allowed_as : (seen : SeenKeys) (f x y : Outline) → seen.first ≡ f → x ≡ y
    → ((e : Outline) → HasPathsOf seen f e → Allows e y) → (e : Outline) → IsSeen seen e → Allows e x
allowed_as seen f x y first is all e h =
    subst (Allows e) (sym is) (all e (subst (λ g. HasPathsOf seen g e) first h))

-- ---- the edits of a list that were seen

pub was_added : (P : Type 0) (r : Result Bool AllocError) → IfOk r (λ added. IsTrue added → P)
    → result_unwrap_or r false ≡ true → P
was_added P (Ok true) h e = h refl
was_added P (Ok false) h e = absurd cc
was_added P (Err f) h e = absurd cc

-- where what holds of an edit holds of it with one more key, too
pub more_seen : (P Q : Outline → Type 0) (outlines : List Outline) (x : Outline) → ((o : Outline) → P o → Q o) → Q x
    → All P outlines → All Q (outlines ++ x ∷ [])
more_seen P Q outlines x on here all = All-push Q outlines x (All-weaker P Q on outlines all) here
