-- A header that is not refused is not refused after an edit, if the marks at the paths with its first keys refuse no
-- more than before, and those have as many elements (`LetsCome`). Its own role is asked for at the path with all of its
-- keys only: before that it goes through a path.
--
-- A header meets nothing else, and each path on its way has its first keys, so it passes key by key (`goes_on`). What
-- the marks refuse at a path is known by what is said of it (`refused_by`), and so is how many elements it has
-- (`element_count`). So it is enough that the test of what refuses the role tells the same of those paths, and as many
-- elements are said (`told_lets`); then each test may tell the same (`any_lets`), or the same is said (`same_lets`).
-- Such a path is not at or below one that the header passes by (`passes_clear`).
--
-- Theorems: `any_made`, `refused_by`; `passes_clear`, `told_lets`, `any_lets`, `same_lets`, `table_unrefused`,
-- `element_unrefused`.
use Rattle.std.proofs.Common.{◌≡◌, ℕ, ◌+◌, ◌-◌, Bool, true, false, cond, not, ◌&&◌, ◌||◌, ◌==◌, List, [], ◌∷◌, ◌++◌}
use Rattle.std.proofs.Common.{◌⊎◌, map, refl, sym, ap, ap₂, ◌∙◌, append_assoc, arith, Option, Some, None, inl, inr}
use Rattle.std.specs.Prelude.{filter}
use Rattle.std.specs.List.{cons_option, count_by, filter_map, list_any}
use Rattle.std.specs.Option.{option_map}
use Rattle.std.proofs.lemmas.List.{map-append}
use Rattle.std.proofs.lemmas.List.Elements.{filter_map-append}
use Rattle.std.proofs.lemmas.List.Sums.{sum_by-cons}
use Rattle.keep_types.specs.declared.leaf.Profile.{Profile}
use Rattle.keep_types.specs.declared.role.Role.{Role}
use Rattle.keep_types.specs.declared.role.Role.TheVariants.{Define, Element, Through}
use Rattle.keep_syntax.specs.declared.fault.Why.{Why}
use Rattle.keep_syntax.specs.Tree.{Document}
use Rattle.keep_path.specs.Path.{Part, index, key, same_path, strip}
use Rattle.keep_meaning.specs.Marks.{Mention, MentionKind, elements_of, entered_path, marks, role_of}
use Rattle.keep_meaning.specs.Meaning.{mentions_in}
use Rattle.keep_meaning.specs.Nodes.{is_at, is_element, kinds_at}
use Rattle.keep_meaning.specs.Rules.{ObeysRules, allows, why_of}
use Rattle.keep_edit_spec.specs.declared.fault.EditFault.TheVariants as fault
use Rattle.keep_edit_spec.specs.Edits.{append_element, append_table}
use Rattle.keep_edit_spec.specs.Headers.{header_conflict, is_refused}
use Rattle.keep_edit_spec.specs.Look.{key_text, keys_in}
use Rattle.keep_edit_spec.specs.Runs.{PassesBy}
use Rattle.keep_edit_spec.specs.Refusals.{refusal, tables_in}
use Rattle.keep_edit_spec.proofs.Append.HeaderConflict.{element_met, table_met}
use Rattle.keep_edit_spec.proofs.Append.HeaderMarks.{lets_pass, refused_roles}
use Rattle.keep_edit_spec.proofs.Common.Runs.{none_or_some, strip-append, strip-sound}
use Rattle.keep_edit_spec.proofs.Lists.HeaderApart.{entered_keys, keys_split, last_passes, no_reason}

-- ---- a test of what is made of some

abbrev pub some_passes : {B : Type 0} → (B → Bool) → Option B → Bool
some_passes T None = false
some_passes T (Some y) = T y

pub any_made : {A B : Type 0} (f : A → Option B) (T : B → Bool) (xs : List A)
    → list_any T (filter_map f xs) ≡ list_any (λ (x : A). some_passes T (f x)) xs
any_made f T [] = refl
any_made {A = A} {B = B} f T (x ∷ xs) = by (f x) (any_made f T xs)
  where
    by : (o : Option B) → list_any T (filter_map f xs) ≡ list_any (λ (x : A). some_passes T (f x)) xs
        → list_any T (cons_option o (filter_map f xs))
        ≡ (some_passes T o || list_any (λ (x : A). some_passes T (f x)) xs)
    by None same = same
    by (Some y) same = ap (λ (b : Bool). T y || b) same

-- ---- paths with first keys of a header

pub passes_clear : (keys : List (List ℕ)) (path q : List Part) (rest : List (List ℕ)) → PassesBy keys path
    → keys ≡ keys_in q ++ rest → strip path q ≡ None
passes_clear keys path q rest passes is = elim (none_or_some (strip path q)) [
  | inl e ↦ e
  | inr r ↦
      let first : List Part = map key (keys_in path) in
      let after : List (List ℕ) = keys_in r.0 ++ rest in
      let whole : keys ≡ keys_in path ++ after =
      is
      ∙ ap (λ (l : List (List ℕ)). l ++ rest)
      (ap keys_in (strip-sound path q r.0 r.1) ∙ filter_map-append key_text path r.0)
      ∙ append_assoc (keys_in path) (keys_in r.0) rest in
      let no : None ≡ Some (map key after) =
      sym passes ∙ ap (strip first) (ap (map key) whole ∙ map-append key (keys_in path) after)
      ∙ strip-append first (map key after) in
      absurd cc
]

-- ---- elements

-- as many are counted as are said
element_count : (q : List Part) (ms : List Mention) → elements_of q (tables_in ms) ≡ count_by is_element (kinds_at q ms)
element_count q [] = refl
element_count q (m ∷ ms) = by (is_element m.kind) refl (is_at q m) refl (element_count q ms)
  where
    one : (b c : Bool) → b ≡ c → cond {A = ℕ} b 1 0 ≡ cond c 1 0
    one b c e = ap (λ (x : Bool). cond {A = ℕ} x 1 0) e

    left : elements_of q (m.path ∷ tables_in ms) ≡ cond {A = ℕ} (is_at q m) 1 0 + elements_of q (tables_in ms)
    left = sum_by-cons (λ (t : List Part). cond (same_path t q) 1 0) m.path (tables_in ms)

    right : count_by is_element (m.kind ∷ kinds_at q ms)
        ≡ cond {A = ℕ} (is_element m.kind) 1 0 + count_by is_element (kinds_at q ms)
    right = sum_by-cons (λ (a : MentionKind). cond (is_element a) 1 0) m.kind (kinds_at q ms)

    by : (b : Bool) → is_element m.kind ≡ b → (c : Bool) → is_at q m ≡ c
        → elements_of q (tables_in ms) ≡ count_by is_element (kinds_at q ms)
        → elements_of q (cons_option (cond b (Some m.path) None) (tables_in ms))
        ≡ count_by is_element (map (λ (m : Mention). m.kind) (cond c (m ∷ filter (is_at q) ms) (filter (is_at q) ms)))
    by true e true f h =
        left ∙ ap₂ (λ (x y : ℕ). x + y) (one (is_at q m) true f ∙ sym (one (is_element m.kind) true e)) h ∙ sym right
    by true e false f h = left ∙ omega (arith, one (is_at q m) false f, h)
    by false e true f h = h ∙ omega (arith, one (is_element m.kind) false e) ∙ sym right
    by false e false f h = h

-- ---- what a header meets

-- what is said at a path that refuses the role there
abbrev pub refuses_role : Role → MentionKind → Bool
refuses_role role kind = some_passes (λ (r : Role). not (allows r role)) (role_of kind)

pub refused_by : (role : Role) (q : List Part) (ms : List Mention)
    → is_refused (marks ms) role q ≡ list_any (refuses_role role) (kinds_at q ms)
refused_by role q ms =
    refused_roles role q ms ∙ any_made role_of (λ (r : Role). not (allows r role)) (kinds_at q ms)

-- at the paths with these first keys, the later marks let come what the earlier ones let come, and as many elements
-- are; where more keys follow, a header only goes through the path
pub record LetsCome (was now : List Mention) (keys : List (List ℕ)) : Type 0 where
  pub lets : (role : Role) (q : List Part) (rest : List (List ℕ)) → keys ≡ keys_in q ++ rest
      → (rest ≡ []) ⊎ (role ≡ Through)
      → is_refused (marks was) role q ≡ false → is_refused (marks now) role q ≡ false
  pub counts : (q : List Part) (rest : List (List ℕ)) → keys ≡ keys_in q ++ rest
      → elements_of q (tables_in now) ≡ elements_of q (tables_in was)

-- where the test of what refuses the role tells the same of such a path as before, and as many elements are said
pub told_lets : (was now : List Mention) (keys : List (List ℕ))
    → ((role : Role) (q : List Part) (rest : List (List ℕ)) → keys ≡ keys_in q ++ rest
    → (rest ≡ []) ⊎ (role ≡ Through)
    → list_any (refuses_role role) (kinds_at q now) ≡ list_any (refuses_role role) (kinds_at q was))
    → ((q : List Part) (rest : List (List ℕ)) → keys ≡ keys_in q ++ rest
    → count_by is_element (kinds_at q now) ≡ count_by is_element (kinds_at q was))
    → LetsCome was now keys
told_lets was now keys told elements = record {
  lets = λ role q rest is comes h.
      refused_by role q now ∙ told role q rest is comes ∙ sym (refused_by role q was) ∙ h;
  counts = λ q rest is. element_count q now ∙ elements q rest is ∙ sym (element_count q was);
}

-- where each test of what is said of such a path does
pub any_lets : (was now : List Mention) (keys : List (List ℕ))
    → ((test : MentionKind → Bool) (q : List Part) (rest : List (List ℕ)) → keys ≡ keys_in q ++ rest
    → list_any test (kinds_at q now) ≡ list_any test (kinds_at q was))
    → ((q : List Part) (rest : List (List ℕ)) → keys ≡ keys_in q ++ rest
    → count_by is_element (kinds_at q now) ≡ count_by is_element (kinds_at q was))
    → LetsCome was now keys
any_lets was now keys tests elements =
    told_lets was now keys (λ role q rest is comes. tests (refuses_role role) q rest is) elements

-- where the same is said of each such path
pub same_lets : (was now : List Mention) (keys : List (List ℕ))
    → ((q : List Part) (rest : List (List ℕ)) → keys ≡ keys_in q ++ rest → kinds_at q now ≡ kinds_at q was)
    → LetsCome was now keys
same_lets was now keys same =
    any_lets was now keys (λ test q rest is. ap (list_any test) (same q rest is))
    (λ q rest is. ap (count_by is_element) (same q rest is))

module _ (was now : List Mention) (all : List (List ℕ)) (come : LetsCome was now all) (role : Role) where
  goes_on : (at : List Part) (k : List ℕ) (ks : List (List ℕ)) → keys_in at ++ k ∷ ks ≡ all
      → header_conflict (marks was) (tables_in was) at (k ∷ ks) role ≡ None
      → header_conflict (marks now) (tables_in now) at (k ∷ ks) role ≡ None
  goes_on at k [] e h =
      ap (λ (b : Bool). cond {A = Option Why} b (Some (why_of role)) None)
      (come.lets role (at ++ key k ∷ []) [] (keys_split at k [] all e) (inl refl)
      (last_passes (marks was) (tables_in was) role at k [] h))
  goes_on at k (l ∷ ks) e h =
      let q : List Part = at ++ key k ∷ [] in
      let whole : all ≡ keys_in q ++ l ∷ ks = keys_split at k (l ∷ ks) all e in
      ap (λ (n : ℕ).
      cond (0 == n && is_refused (marks now) Through q) (Some (why_of Through))
      (header_conflict (marks now) (tables_in now) (cond (0 == n) q (q ++ index (n - 1) ∷ [])) (l ∷ ks) role))
      (come.counts q (l ∷ ks) whole)
      ∙ by (0 == elements_of q (tables_in was)) (is_refused (marks was) Through q) refl h
      (come.lets Through q (l ∷ ks) whole (inr refl))
      (goes_on (entered_path (tables_in was) q) l ks
      (ap (λ (x : List (List ℕ)). x ++ l ∷ ks) (entered_keys (tables_in was) q) ∙ sym whole))
    where
      rest : List Mention → Option Why
      rest ms =
          header_conflict (marks ms) (tables_in ms) (entered_path (tables_in was) (at ++ key k ∷ [])) (l ∷ ks) role

      by : (b c : Bool) → is_refused (marks was) Through (at ++ key k ∷ []) ≡ c
          → cond (b && c) (Some (why_of Through)) (rest was) ≡ None
          → (is_refused (marks was) Through (at ++ key k ∷ []) ≡ false
          → is_refused (marks now) Through (at ++ key k ∷ []) ≡ false)
          → (rest was ≡ None → rest now ≡ None)
          → cond (b && is_refused (marks now) Through (at ++ key k ∷ [])) (Some (why_of Through)) (rest now) ≡ None
      by true true g h free more = absurd cc
      by true false g h free more =
          ap (λ (b : Bool). cond b (Some (why_of Through)) (rest now)) (free g) ∙ more h
      by false c g h free more = more h

-- ---- a header that is not refused

module _ (profile : Profile) (limit : ℕ) (s to : Document) (obeyed : ObeysRules (marks (mentions_in s)))
    (obeys : ObeysRules (marks (mentions_in to))) where
  abbrev was : List Mention
  was = mentions_in s

  abbrev now : List Mention
  now = mentions_in to

  pub table_unrefused : (keys : List (List ℕ)) → LetsCome was now keys
      → refusal profile limit s (append_table keys) ≡ None → refusal profile limit to (append_table keys) ≡ None
  table_unrefused [] come h = absurd cc
  table_unrefused (k ∷ ks) come h =
      ap (option_map fault.Conflict)
      (table_met now (lets_pass now obeys) k ks
      ∙ goes_on was now (k ∷ ks) come Define [] k ks refl
      (sym (table_met was (lets_pass was obeyed) k ks) ∙ no_reason _ h))

  pub element_unrefused : (keys : List (List ℕ)) → LetsCome was now keys
      → refusal profile limit s (append_element keys) ≡ None → refusal profile limit to (append_element keys) ≡ None
  element_unrefused [] come h = absurd cc
  element_unrefused (k ∷ ks) come h =
      ap (option_map fault.Conflict)
      (element_met now (lets_pass now obeys) k ks
      ∙ goes_on was now (k ∷ ks) come Element [] k ks refl
      (sym (element_met was (lets_pass was obeyed) k ks) ∙ no_reason _ h))
