-- A header that may come at the end of a text may still come after another header that came there.
--
-- The marks of the first header are at the paths on its way and at its own path, and the keys in each are the first
-- ones of its keys (`path_keys`). So the second header meets them only where it has the same first keys. On its way it
-- meets marks of headers that go through the same path, which let it go through too (`way_open`), and none of an
-- element, if its keys do not begin with all keys of the first header (`onward_element`). At its own path it meets
-- such marks of a way, after which a table may be defined, and none if its keys are not the first ones of the first
-- header (`way_other`); or the mark of a header with the same keys, after which an element may come, but no table. An
-- element that the first header begins changes nothing of the second header's way, as it has another path
-- (`goes_on`).
--
-- Theorems: `table_goes_on`, `element_goes_on`.
use Rattle.std.proofs.Common.{◌≡◌, ℕ, zero, suc, ◌-◌, Bool, true, false, cond, not, ◌&&◌, ◌||◌, ◌==◌, List, []}
use Rattle.std.proofs.Common.{◌∷◌, ◌++◌, refl, sym, ap, subst, ◌∙◌, append_assoc, arith, Option, Some, None}
use Rattle.std.specs.Option.{option_map}
use Rattle.std.proofs.lemmas.List.{append-nil}
use Rattle.std.proofs.lemmas.List.Elements.{filter_map-append}
use Rattle.std.proofs.lemmas.List.Folds.{list_any-append}
use Rattle.std.proofs.lemmas.List.Sums.{sum_by-append}
use Rattle.keep_syntax.specs.declared.fault.Why.{Why}
use Rattle.keep_types.specs.declared.role.Role.{Role}
use Rattle.keep_types.specs.declared.role.Role.TheVariants.{Through, Past, Define, Element}
use Rattle.keep_path.specs.Path.{Part, key, index, same_path}
use Rattle.keep_meaning.specs.Faults.{refuses}
use Rattle.keep_meaning.specs.Marks as marks_of
use Rattle.keep_meaning.specs.Marks.{Mention, Statement, begun, define, element as kinds_element, elements_of}
use Rattle.keep_meaning.specs.Marks.{entered_path, header_path, header_prefixes, mark_of, marks, past, passed}
use Rattle.keep_meaning.specs.Marks.{statement_mentions, through}
use Rattle.keep_meaning.specs.Nodes.{is_element}
use Rattle.keep_meaning.specs.Rules.{Mark, ObeysRules, allows, why_of}
use Rattle.keep_edit_spec.specs.declared.fault.EditFault.TheVariants as fault
use Rattle.keep_edit_spec.specs.Headers.{header_conflict, is_refused}
use Rattle.keep_edit_spec.specs.Look.{key_text, keys_in}
use Rattle.keep_edit_spec.specs.Refusals.{conflict, element_path, end_reading, tables_in}
use Rattle.keep_edit_spec.proofs.Append.AppendTable.{no_conflict, none_prefixes, tables_none}
use Rattle.keep_edit_spec.proofs.Append.HeaderConflict.{element_met, table_met}
use Rattle.keep_edit_spec.proofs.Append.HeaderMarks.{element_undefines, lets_pass, marks_let}
use Rattle.keep_edit_spec.proofs.Common.Doubles.{some_has}
use Rattle.keep_edit_spec.proofs.Common.Runs.{same_path-sound}
use Rattle.keep_edit_spec.proofs.Insert.HeaderPrefixes.{path_keys}
use Rattle.keep_edit_spec.proofs.Insert.LinesNamed.{counted}

-- ---- first keys

-- keys do not go on from others: those are not the first of them
abbrev pub GoesNotOn : List (List ℕ) → List (List ℕ) → Type 0
GoesNotOn keys more = (x : List ℕ) (xs : List (List ℕ)) → more ≡ keys ++ x ∷ xs → ⊥

pub entered_keys : (tables : List (List Part)) (q : List Part) → keys_in (entered_path tables q) ≡ keys_in q
entered_keys tables q = by (0 == elements_of q tables)
  where
    by : (b : Bool) → keys_in (cond b q (q ++ index (elements_of q tables - 1) ∷ [])) ≡ keys_in q
    by true = refl
    by false =
        filter_map-append key_text q (index (elements_of q tables - 1) ∷ []) ∙ append-nil (keys_in q)

one_key : (at : List Part) (k : List ℕ) → keys_in (at ++ key k ∷ []) ≡ keys_in at ++ k ∷ []
one_key at k = filter_map-append key_text at (key k ∷ [])

-- the keys of a path on the way, and those after it
pub keys_split : (at : List Part) (k : List ℕ) (ks all : List (List ℕ)) → keys_in at ++ k ∷ ks ≡ all
    → all ≡ keys_in (at ++ key k ∷ []) ++ ks
keys_split at k ks all e =
    sym e ∙ sym (append_assoc (keys_in at) (k ∷ []) ks) ∙ ap (λ (x : List (List ℕ)). x ++ ks) (sym (one_key at k))

-- ---- the marks of a header's way

abbrev refused_here : Mark → Role → List Part → Bool
refused_here m role q = same_path m.path q && not (allows m.role role)

-- what a header says of one path on its way
abbrev passing : List (List Part) → List Part → Bool → List Mention
passing tables q b =
    cond b (record { path = q; kind = through } ∷ [])
    (record { path = q; kind = past } ∷ record { path = entered_path tables q; kind = passed } ∷ [])

module _ (tables : List (List Part)) (role : Role) (q : List Part) where
  -- one of these marks and those after it
  one_more : (p : List Part) (more : List Mention) (b : Bool) → is_refused (marks more) role q ≡ false
      → (same_path p q && not (allows (cond b Through Past) role)) ≡ false
      → is_refused (marks (passing tables p b ++ more)) role q ≡ false
  one_more p more true rest h = ap (λ (x : Bool). x || is_refused (marks more) role q) h ∙ rest
  one_more p more false rest h = ap (λ (x : Bool). x || is_refused (marks more) role q) h ∙ rest

  -- where headers may go on, if no elements are there
  way_open : allows Through role ≡ true → (0 == elements_of q tables) ≡ true → (at : List Part)
      (keys : List (List ℕ)) → is_refused (marks (header_prefixes tables at keys)) role q ≡ false
  way_open lets none at [] = refl
  way_open lets none at (k ∷ []) = refl
  way_open lets none at (k ∷ l ∷ ks) =
      let p : List Part = at ++ key k ∷ [] in
      one_more p (header_prefixes tables (entered_path tables p) (l ∷ ks)) (0 == elements_of p tables)
      (way_open lets none (entered_path tables p) (l ∷ ks)) (by (same_path p q) refl (0 == elements_of p tables) refl)
    where
      by : (b : Bool) → same_path (at ++ key k ∷ []) q ≡ b → (c : Bool)
          → (0 == elements_of (at ++ key k ∷ []) tables) ≡ c
          → (same_path (at ++ key k ∷ []) q && not (allows (cond c Through Past) role)) ≡ false
      by false e c f = ap (λ (x : Bool). x && not (allows (cond c Through Past) role)) e
      by true e true f =
          ap (λ (x : Bool). x && not (allows Through role)) e ∙ ap (λ (x : Bool). not x) lets
      by true e false f =
          let same : (0 == elements_of (at ++ key k ∷ []) tables) ≡ true =
          ap (λ (x : List Part). 0 == elements_of x tables) (same_path-sound (at ++ key k ∷ []) q e) ∙ none in
          absurd cc

  -- where the way does not come
  pub way_other : (at : List Part) (keys all : List (List ℕ)) → keys_in at ++ keys ≡ all → GoesNotOn (keys_in q) all
      → is_refused (marks (header_prefixes tables at keys)) role q ≡ false
  way_other at [] all e far = refl
  way_other at (k ∷ []) all e far = refl
  way_other at (k ∷ l ∷ ks) all e far =
      let p : List Part = at ++ key k ∷ [] in
      let whole : all ≡ keys_in p ++ l ∷ ks = keys_split at k (l ∷ ks) all e in
      one_more p (header_prefixes tables (entered_path tables p) (l ∷ ks)) (0 == elements_of p tables)
      (way_other (entered_path tables p) (l ∷ ks) all
      (ap (λ (x : List (List ℕ)). x ++ l ∷ ks) (entered_keys tables p) ∙ sym whole) far)
      (by (same_path p q) refl whole)
    where
      by : (b : Bool) → same_path (at ++ key k ∷ []) q ≡ b → all ≡ keys_in (at ++ key k ∷ []) ++ l ∷ ks
          → (same_path (at ++ key k ∷ []) q
          && not (allows (cond (0 == elements_of (at ++ key k ∷ []) tables) Through Past) role)) ≡ false
      by false f whole =
          ap (λ (x : Bool).
          x && not (allows (cond (0 == elements_of (at ++ key k ∷ []) tables) Through Past) role)) f
      by true f whole =
          absurd (far l ks (whole ∙ ap (λ (x : List Part). keys_in x ++ l ∷ ks)
          (same_path-sound (at ++ key k ∷ []) q f)))

-- the marks of a header
abbrev pub own_marks : List (List Part) → List (List ℕ) → Role → List Mark
own_marks tables keys role =
    marks (header_prefixes tables [] keys) ++ record { role = role; path = header_path tables [] keys } ∷ []

pub passes_own : (tables : List (List Part)) (keys : List (List ℕ)) (own role : Role) (q : List Part)
    → is_refused (marks (header_prefixes tables [] keys)) role q ≡ false
    → (header_path tables [] keys ≡ q → allows own role ≡ true)
    → is_refused (own_marks tables keys own) role q ≡ false
passes_own tables keys own role q way here =
    let p : List Part = header_path tables [] keys in
    list_any-append (refuses (record { role = role; path = q })) (marks (header_prefixes tables [] keys))
    (record { role = own; path = p } ∷ [])
    ∙ ap (λ (b : Bool). b || ((same_path p q && not (allows own role)) || false)) way
    ∙ by (same_path p q) refl
  where
    by : (b : Bool) → same_path (header_path tables [] keys) q ≡ b
        → ((same_path (header_path tables [] keys) q && not (allows own role)) || false) ≡ false
    by false e = ap (λ (x : Bool). (x && not (allows own role)) || false) e
    by true e =
        ap (λ (x : Bool). (x && not (allows own role)) || false) e
        ∙ ap (λ (x : Bool). not x || false) (here (same_path-sound (header_path tables [] keys) q e))

-- ---- a header, key by key

-- what its last mark meets
pub last_passes : (earlier : List Mark) (tables : List (List Part)) (role : Role) (at : List Part) (k : List ℕ)
    (ks : List (List ℕ)) → header_conflict earlier tables at (k ∷ ks) role ≡ None
    → is_refused earlier role (header_path tables at (k ∷ ks)) ≡ false
last_passes earlier tables role at k [] h = by (is_refused earlier role (at ++ key k ∷ [])) h
  where
    by : (b : Bool) → cond {A = Option Why} b (Some (why_of role)) None ≡ None → b ≡ false
    by true h = absurd cc
    by false h = refl
last_passes earlier tables role at k (l ∷ ks) h =
    let q : List Part = at ++ key k ∷ [] in
    by (0 == elements_of q tables && is_refused earlier Through q) h
    (last_passes earlier tables role (entered_path tables q) l ks)
  where
    by : (b : Bool) → cond b (Some (why_of Through))
        (header_conflict earlier tables (entered_path tables (at ++ key k ∷ [])) (l ∷ ks) role) ≡ None
        → (header_conflict earlier tables (entered_path tables (at ++ key k ∷ [])) (l ∷ ks) role ≡ None
        → is_refused earlier role (header_path tables at (k ∷ l ∷ ks)) ≡ false)
        → is_refused earlier role (header_path tables at (k ∷ l ∷ ks)) ≡ false
    by true h more = absurd cc
    by false h more = more h

-- Of a header with these keys: at each path on its way as many elements are as before, and the new marks let headers
-- through where none are.
abbrev pub Onward : List Mark → List (List Part) → List (List Part) → List (List ℕ) → Type 0
Onward own tables now all =
    (q : List Part) (x : List ℕ) (xs : List (List ℕ)) → all ≡ keys_in q ++ x ∷ xs
    → (elements_of q now ≡ elements_of q tables)
    × ((0 == elements_of q tables) ≡ true → is_refused own Through q ≡ false)

module _ (earlier own : List Mark) (tables now : List (List Part)) (role : Role) (all : List (List ℕ))
    (onward : Onward own tables now all) where
  still : (r : Role) (q : List Part) → is_refused earlier r q ≡ false → is_refused own r q ≡ false
      → is_refused (earlier ++ own) r q ≡ false
  still r q h g =
      list_any-append (refuses (record { role = r; path = q })) earlier own
      ∙ ap (λ (b : Bool). b || is_refused own r q) h ∙ g

  pub goes_on : (at : List Part) (k : List ℕ) (ks : List (List ℕ)) → keys_in at ++ k ∷ ks ≡ all
      → is_refused own role (header_path tables at (k ∷ ks)) ≡ false
      → header_conflict earlier tables at (k ∷ ks) role ≡ None
      → header_conflict (earlier ++ own) now at (k ∷ ks) role ≡ None
  goes_on at k [] e last h =
      ap (λ (b : Bool). cond {A = Option Why} b (Some (why_of role)) None)
      (still role (at ++ key k ∷ []) (last_passes earlier tables role at k [] h) last)
  goes_on at k (l ∷ ks) e last h =
      let q : List Part = at ++ key k ∷ [] in
      let to : List Part = entered_path tables q in
      let whole : all ≡ keys_in q ++ l ∷ ks = keys_split at k (l ∷ ks) all e in
      let here = onward q l ks whole in
      ap (λ (n : ℕ).
      cond (0 == n && is_refused (earlier ++ own) Through q) (Some (why_of Through))
      (header_conflict (earlier ++ own) now (cond (0 == n) q (q ++ index (n - 1) ∷ [])) (l ∷ ks) role)) here.0
      ∙ by (0 == elements_of q tables) refl (is_refused earlier Through q) refl h here.1
      (goes_on to l ks (ap (λ (x : List (List ℕ)). x ++ l ∷ ks) (entered_keys tables q) ∙ sym whole) last)
    where
      by : (b : Bool) → (0 == elements_of (at ++ key k ∷ []) tables) ≡ b
          → (c : Bool) → is_refused earlier Through (at ++ key k ∷ []) ≡ c
          → cond (b && c) (Some (why_of Through))
          (header_conflict earlier tables (entered_path tables (at ++ key k ∷ [])) (l ∷ ks) role) ≡ None
          → (b ≡ true → is_refused own Through (at ++ key k ∷ []) ≡ false)
          → (header_conflict earlier tables (entered_path tables (at ++ key k ∷ [])) (l ∷ ks) role ≡ None
          → header_conflict (earlier ++ own) now (entered_path tables (at ++ key k ∷ [])) (l ∷ ks) role ≡ None)
          → cond (b && is_refused (earlier ++ own) Through (at ++ key k ∷ [])) (Some (why_of Through))
          (header_conflict (earlier ++ own) now (entered_path tables (at ++ key k ∷ [])) (l ∷ ks) role) ≡ None
      by true f true g h lets more = absurd cc
      by true f false g h lets more =
          ap (λ (b : Bool).
          cond b (Some (why_of Through))
          (header_conflict (earlier ++ own) now (entered_path tables (at ++ key k ∷ [])) (l ∷ ks) role))
          (still Through (at ++ key k ∷ []) g (lets refl)) ∙ more h
      by false f c g h lets more = more h

-- ---- what a header adds

-- the marks on the way of a header that is let come, and its own
module _ (tables now : List (List Part)) (k : List ℕ) (ks all : List (List ℕ)) where
  abbrev pub own_path : List Part
  own_path = header_path tables [] (k ∷ ks)

  pub onward_table : now ≡ tables → Onward (own_marks tables (k ∷ ks) Define) tables now all
  onward_table same q x xs e = (
    ap (elements_of q) same,
    λ none. passes_own tables (k ∷ ks) Define Through q (way_open tables Through q refl none [] (k ∷ ks)) (λ f. refl),
  )

  -- the element's path is none of those on the way
  other_path : (q : List Part) (x : List ℕ) (xs : List (List ℕ)) → GoesNotOn (k ∷ ks) all → all ≡ keys_in q ++ x ∷ xs
      → own_path ≡ q → ⊥
  other_path q x xs far e same =
      far x xs (e ∙ ap (λ (l : List (List ℕ)). l ++ x ∷ xs)
      (ap keys_in (sym same) ∙ path_keys tables [] k ks))

  pub onward_element : now ≡ tables ++ own_path ∷ [] → GoesNotOn (k ∷ ks) all
      → Onward (own_marks tables (k ∷ ks) Element) tables now all
  onward_element more far q x xs e = (
    ap (elements_of q) more ∙ by (same_path own_path q) refl,
    λ none. passes_own tables (k ∷ ks) Element Through q (way_open tables Through q refl none [] (k ∷ ks))
        (λ f. absurd (other_path q x xs far e f)),
  )
    where
      by : (b : Bool) → same_path own_path q ≡ b → elements_of q (tables ++ own_path ∷ []) ≡ elements_of q tables
      by true f = absurd (other_path q x xs far e (same_path-sound own_path q f))
      by false f =
          let one : cond {A = ℕ} (same_path own_path q) 1 0 ≡ 0 = ap (λ (b : Bool). cond {A = ℕ} b 1 0) f in
          omega (arith, one, sum_by-append (λ t. cond (same_path t q) 1 0) tables (own_path ∷ []))

-- ---- what is said with a header more

pub no_reason : (o : Option Why) → option_map fault.Conflict o ≡ None → o ≡ None
no_reason None h = refl
no_reason (Some w) h = absurd cc

module _ (ms : List Mention) where
  abbrev pub with_statement : Statement → List Mention
  with_statement st = ms ++ statement_mentions (end_reading ms) st

  pub marks_with : (keys : List (List ℕ)) (role : Role) (last : List Mention)
      → marks last ≡ record { role = role; path = header_path (tables_in ms) [] keys } ∷ []
      → marks (ms ++ (header_prefixes (tables_in ms) [] keys ++ last)) ≡ marks ms ++ own_marks (tables_in ms) keys role
  marks_with keys role last e =
      let way : List Mention = header_prefixes (tables_in ms) [] keys in
      filter_map-append mark_of ms (way ++ last)
      ∙ ap (λ (l : List Mark). marks ms ++ l)
      (filter_map-append mark_of way last ∙ ap (λ (l : List Mark). marks way ++ l) e)

  pub tables_with : (keys : List (List ℕ)) (last : List Mention)
      → tables_in (ms ++ (header_prefixes (tables_in ms) [] keys ++ last)) ≡ tables_in ms ++ tables_in last
  tables_with keys last =
      let way : List Mention = header_prefixes (tables_in ms) [] keys in
      filter_map-append element_path ms (way ++ last)
      ∙ ap (λ (l : List (List Part)). tables_in ms ++ l)
      (filter_map-append element_path way last
      ∙ ap (λ (l : List (List Part)). l ++ tables_in last) (tables_none way (none_prefixes (tables_in ms) [] keys)))

-- ---- a table

module _ (ms : List Mention) (obeys : ObeysRules (marks ms)) (k : List ℕ) (ks : List (List ℕ)) (l : List ℕ)
    (ls : List (List ℕ)) where
  abbrev tables : List (List Part)
  tables = tables_in ms

  -- No element is where a table may be defined.
  none_there : (path : List Part) → is_refused (marks ms) Define path ≡ false → (0 == elements_of path tables) ≡ true
  none_there path free = by (elements_of path tables) refl
    where
      by : (n : ℕ) → elements_of path tables ≡ n → (0 == n) ≡ true
      by zero e = refl
      by (suc n) e =
          let no : true ≡ false =
          sym (element_undefines path ms (marks_let ms obeys)
          (some_has is_element path ms (counted path ms (omega (arith, e))))) ∙ free in
          absurd cc

  pub table_goes_on : (k ∷ ks ≡ l ∷ ls → ⊥) → conflict (marks_of.header (k ∷ ks)) ms ≡ None
      → conflict (marks_of.header (l ∷ ls)) ms ≡ None
      → conflict (marks_of.header (l ∷ ls)) (with_statement ms (marks_of.header (k ∷ ks))) ≡ None
  table_goes_on differ first other =
      let now : List Mention = with_statement ms (marks_of.header (k ∷ ks)) in
      let path : List Part = header_path tables [] (l ∷ ls) in
      let top : Mention = record { path = header_path tables [] (k ∷ ks); kind = define } in
      let free : header_conflict (marks ms) tables [] (l ∷ ls) Define ≡ None =
      sym (table_met ms (lets_pass ms obeys) l ls) ∙ no_reason _ other in
      let last : is_refused (own_marks tables (k ∷ ks) Define) Define path ≡ false =
      passes_own tables (k ∷ ks) Define Define path
      (way_open tables Define path refl (none_there path (last_passes (marks ms) tables Define [] l ls free)) []
      (k ∷ ks))
      (λ e. absurd (differ (sym (path_keys tables [] k ks) ∙ ap keys_in e ∙ path_keys tables [] l ls))) in
      let same : tables_in now ≡ tables = tables_with ms (k ∷ ks) (top ∷ []) ∙ append-nil tables in
      ap (option_map fault.Conflict)
      (table_met now (lets_pass now (no_conflict (marks_of.header (k ∷ ks)) ms obeys first)) l ls
      ∙ ap (λ (m : List Mark). header_conflict m (tables_in now) [] (l ∷ ls) Define)
      (marks_with ms (k ∷ ks) Define (top ∷ []) refl)
      ∙ goes_on (marks ms) (own_marks tables (k ∷ ks) Define) tables (tables_in now) Define (l ∷ ls)
      (onward_table tables (tables_in now) k ks (l ∷ ls) same) [] l ls refl last free)

  pub element_goes_on : GoesNotOn (k ∷ ks) (l ∷ ls) → GoesNotOn (l ∷ ls) (k ∷ ks)
      → conflict (marks_of.element_header (k ∷ ks)) ms ≡ None
      → conflict (marks_of.element_header (l ∷ ls)) ms ≡ None
      → conflict (marks_of.element_header (l ∷ ls)) (with_statement ms (marks_of.element_header (k ∷ ks))) ≡ None
  element_goes_on apart far first other =
      let now : List Mention = with_statement ms (marks_of.element_header (k ∷ ks)) in
      let own : List Part = header_path tables [] (k ∷ ks) in
      let path : List Part = header_path tables [] (l ∷ ls) in
      let top : List Mention =
      record { path = own; kind = kinds_element }
      ∷ record { path = own ++ index (elements_of own tables) ∷ []; kind = begun } ∷ [] in
      let free : header_conflict (marks ms) tables [] (l ∷ ls) Element ≡ None =
      sym (element_met ms (lets_pass ms obeys) l ls) ∙ no_reason _ other in
      let last : is_refused (own_marks tables (k ∷ ks) Element) Element path ≡ false =
      passes_own tables (k ∷ ks) Element Element path
      (way_other tables Element path [] (k ∷ ks) (k ∷ ks) refl
      (subst (λ (x : List (List ℕ)). GoesNotOn x (k ∷ ks)) (sym (path_keys tables [] l ls)) far))
      (λ e. refl) in
      let more : tables_in now ≡ tables ++ own ∷ [] = tables_with ms (k ∷ ks) top in
      ap (option_map fault.Conflict)
      (element_met now (lets_pass now (no_conflict (marks_of.element_header (k ∷ ks)) ms obeys first)) l ls
      ∙ ap (λ (m : List Mark). header_conflict m (tables_in now) [] (l ∷ ls) Element)
      (marks_with ms (k ∷ ks) Element top refl)
      ∙ goes_on (marks ms) (own_marks tables (k ∷ ks) Element) tables (tables_in now) Element (l ∷ ls)
      (onward_element tables (tables_in now) k ks (l ∷ ls) more apart) [] l ls refl last free)
