-- The conflict of a header at the end of a text is what it meets key by key: its own marks are never in one another's
-- way.
--
-- Each mark of a header has a longer path than those before it (`none_own`), so only the document's marks can refuse
-- it. A mark that goes past an array of tables is never refused (`LetsPass`). Theorems: `table_met` and `element_met`.
use Rattle.std.proofs.Common.{◌≡◌, ℕ, ◌-◌, ◌<◌, ◌≤◌, Bool, true, false, cond, not, ◌&&◌, ◌||◌, ◌==◌, List, [], ◌∷◌}
use Rattle.std.proofs.Common.{◌++◌, length, refl, sym, ap, ◌∙◌, append_assoc, length-append, arith, Option, Some, None}
use Rattle.std.specs.List.{list_any}
use Rattle.std.specs.Option.{option_map}
use Rattle.std.proofs.lemmas.List.{append-nil}
use Rattle.std.proofs.lemmas.List.Elements.{filter_map-append}
use Rattle.std.proofs.lemmas.List.Folds.{list_any-append}
use Rattle.keep_syntax.specs.declared.fault.Why.{Why}
use Rattle.keep_types.specs.declared.role.Role.{Role}
use Rattle.keep_types.specs.declared.role.Role.TheVariants.{Through, Past, Define, Element}
use Rattle.keep_meaning.specs.Faults.{Fault, refuses, first_fault_after}
use Rattle.keep_meaning.specs.Marks as marks_of
use Rattle.keep_meaning.specs.Marks.{Mention, through, past, define, element as kinds_element, begun, passed, mark_of}
use Rattle.keep_meaning.specs.Marks.{marks, elements_of, entered_path, header_path, header_prefixes, statement_mentions}
use Rattle.keep_meaning.specs.Rules.{Mark, allows, why_of}
use Rattle.keep_path.specs.Path.{Part, key, index, same_path}
use Rattle.keep_edit_spec.specs.Headers.{is_refused, header_conflict}
use Rattle.keep_edit_spec.specs.Refusals.{first_conflict, end_reading, tables_in}
use Rattle.keep_edit_spec.proofs.Common.Runs.{AllOf, all_join, same_path-sound}
use Rattle.keep_edit_spec.proofs.Insert.LinesNamed.{some_elements}

-- ---- its own marks

-- a mark no longer than the path
abbrev Short : List Part → Mark → Type 0
Short at m = length m.path ≤ length at

not_same : (p q : List Part) → length p < length q → same_path p q ≡ false
not_same p q less = by (same_path p q) refl
  where
    by : (b : Bool) → same_path p q ≡ b → b ≡ false
    by false e = refl
    by true e = absurd (omega (arith, less, ap (λ (l : List Part). length l) (same_path-sound p q e)))

longer_key : (at : List Part) (k : List ℕ) → length at < length (at ++ key k ∷ [])
longer_key at k = omega (arith, length-append at (key k ∷ []))

none_own : (at : List Part) (k : List ℕ) (role : Role) (own : List Mark) → AllOf (Short at) own
    → is_refused own role (at ++ key k ∷ []) ≡ false
none_own at k role [] h = refl
none_own at k role (m ∷ own) h =
    ap (λ (b : Bool). (b && not (allows m.role role)) || is_refused own role (at ++ key k ∷ []))
    (not_same m.path (at ++ key k ∷ []) (omega (arith, h.0, longer_key at k)))
    ∙ none_own at k role own h.1

or_false : (b : Bool) → (b || false) ≡ b
or_false true = refl
or_false false = refl

-- only the marks before it count
refused_before : (earlier own : List Mark) (at : List Part) (k : List ℕ) (role : Role) → AllOf (Short at) own
    → is_refused (earlier ++ own) role (at ++ key k ∷ []) ≡ is_refused earlier role (at ++ key k ∷ [])
refused_before earlier own at k role h =
    list_any-append (refuses (record { role = role; path = at ++ key k ∷ [] })) earlier own
    ∙ ap (λ (b : Bool). is_refused earlier role (at ++ key k ∷ []) || b) (none_own at k role own h)
    ∙ or_false (is_refused earlier role (at ++ key k ∷ []))

entered_longer : (tables : List (List Part)) (q : List Part) → length q ≤ length (entered_path tables q)
entered_longer tables q = by (0 == elements_of q tables)
  where
    by : (b : Bool) → length q ≤ length (cond b q (q ++ index (elements_of q tables - 1) ∷ []))
    by true = omega arith
    by false = omega (arith, length-append q (index (elements_of q tables - 1) ∷ []))

short_longer : (at to : List Part) (own : List Mark) → length at ≤ length to → AllOf (Short at) own
    → AllOf (Short to) own
short_longer at to [] less h = tt
short_longer at to (m ∷ own) less h = (omega (arith, less, h.0), short_longer at to own less h.1)

-- ---- mark by mark

-- the reason for the first of further marks that is refused
abbrev reason : List Mark → List Mark → Option Why
reason earlier more = option_map (λ (f : Fault). f.why) (first_fault_after earlier more)

one_more : (earlier : List Mark) (m : Mark) (more : List Mark) (b : Bool) → list_any (refuses m) earlier ≡ b
    → reason earlier (m ∷ more) ≡ cond b (Some (why_of m.role)) (reason (earlier ++ m ∷ []) more)
one_more earlier m more true e =
    ap (λ (b : Bool).
    option_map (λ (f : Fault). f.why)
    (elim b [
      | true ↦ Some (record { number = length earlier; why = why_of m.role })
      | false ↦
          first_fault_after (earlier ++ m ∷ []) more
    ])) e
one_more earlier m more false e =
    ap (λ (b : Bool).
    option_map (λ (f : Fault). f.why)
    (elim b [
      | true ↦ Some (record { number = length earlier; why = why_of m.role })
      | false ↦
          first_fault_after (earlier ++ m ∷ []) more
    ])) e

-- an array of tables lets headers go past it
abbrev pub LetsPass : List Mark → List (List Part) → Type 0
LetsPass earlier tables = (q : List Part) → 0 < elements_of q tables → is_refused earlier Past q ≡ false

-- what a header says of one path on its way
abbrev passing : List (List Part) → List Part → Bool → List Mention
passing tables q b =
    cond b (record { path = q; kind = through } ∷ [])
    (record { path = q; kind = past } ∷ record { path = entered_path tables q; kind = passed } ∷ [])

module _ (earlier : List Mark) (tables : List (List Part)) (passes : LetsPass earlier tables) (role : Role) where
  -- the marks of the keys to go
  abbrev to_go : List Part → List (List ℕ) → List Mark
  to_go at keys =
      marks (header_prefixes tables at keys) ++ record { role = role; path = header_path tables at keys } ∷ []

  -- one key further on, after a mark of that role
  onward : (own : List Mark) (at : List Part) (k l : List ℕ) (ks : List (List ℕ)) (r : Role) → AllOf (Short at) own
      → ((own : List Mark) → AllOf (Short (entered_path tables (at ++ key k ∷ []))) own
      → reason (earlier ++ own) (to_go (entered_path tables (at ++ key k ∷ [])) (l ∷ ks))
      ≡ header_conflict earlier tables (entered_path tables (at ++ key k ∷ [])) (l ∷ ks) role)
      → reason (earlier ++ own) (record { role = r; path = at ++ key k ∷ [] }
      ∷ to_go (entered_path tables (at ++ key k ∷ [])) (l ∷ ks))
      ≡ cond (is_refused earlier r (at ++ key k ∷ [])) (Some (why_of r))
      (header_conflict earlier tables (entered_path tables (at ++ key k ∷ [])) (l ∷ ks) role)
  onward own at k l ks r short more =
      let q : List Part = at ++ key k ∷ [] in
      let to : List Part = entered_path tables q in
      let m : Mark = record { role = r; path = q } in
      let own_short : AllOf (Short to) (own ++ m ∷ []) =
      all_join (Short to) own (m ∷ [])
      (short_longer at to own (omega (arith, longer_key at k, entered_longer tables q)) short)
      (entered_longer tables q, tt) in
      one_more (earlier ++ own) m (to_go to (l ∷ ks)) (is_refused (earlier ++ own) r q) refl
      ∙ ap (λ (b : Bool). cond b (Some (why_of r)) (reason ((earlier ++ own) ++ m ∷ []) (to_go to (l ∷ ks))))
      (refused_before earlier own at k r short)
      ∙ ap (λ (o : Option Why). cond (is_refused earlier r q) (Some (why_of r)) o)
      (ap (λ (ms : List Mark). reason ms (to_go to (l ∷ ks))) (append_assoc earlier own (m ∷ []))
      ∙ more (own ++ m ∷ []) own_short)

  met : (own : List Mark) (at : List Part) (k : List ℕ) (ks : List (List ℕ)) → AllOf (Short at) own
      → reason (earlier ++ own) (to_go at (k ∷ ks)) ≡ header_conflict earlier tables at (k ∷ ks) role
  met own at k [] short =
      one_more (earlier ++ own) (record { role = role; path = at ++ key k ∷ [] }) []
      (is_refused (earlier ++ own) role (at ++ key k ∷ [])) refl
      ∙ ap (λ (b : Bool). cond {A = Option Why} b (Some (why_of role)) None)
      (refused_before earlier own at k role short)
  met own at k (l ∷ ks) short =
      by (0 == elements_of (at ++ key k ∷ []) tables) refl
      (λ own h. met own (entered_path tables (at ++ key k ∷ [])) l ks h)
    where
      by : (b : Bool) → (0 == elements_of (at ++ key k ∷ []) tables) ≡ b
          → ((own : List Mark) → AllOf (Short (entered_path tables (at ++ key k ∷ []))) own
          → reason (earlier ++ own) (to_go (entered_path tables (at ++ key k ∷ [])) (l ∷ ks))
          ≡ header_conflict earlier tables (entered_path tables (at ++ key k ∷ [])) (l ∷ ks) role)
          → reason (earlier ++ own) (to_go at (k ∷ l ∷ ks)) ≡ header_conflict earlier tables at (k ∷ l ∷ ks) role
      by true e more =
          let q : List Part = at ++ key k ∷ [] in
          let to : List Part = entered_path tables q in
          ap (λ (b : Bool).
          reason (earlier ++ own) (marks (passing tables q b ++ header_prefixes tables to (l ∷ ks))
          ++ record { role = role; path = header_path tables to (l ∷ ks) } ∷ [])) e
          ∙ onward own at k l ks Through short more
          ∙ sym (ap (λ (b : Bool).
          cond (b && is_refused earlier Through q) (Some (why_of Through))
          (header_conflict earlier tables to (l ∷ ks) role)) e)
      by false e more =
          let q : List Part = at ++ key k ∷ [] in
          let to : List Part = entered_path tables q in
          ap (λ (b : Bool).
          reason (earlier ++ own) (marks (passing tables q b ++ header_prefixes tables to (l ∷ ks))
          ++ record { role = role; path = header_path tables to (l ∷ ks) } ∷ [])) e
          ∙ onward own at k l ks Past short more
          ∙ ap (λ (b : Bool). cond b (Some (why_of Past)) (header_conflict earlier tables to (l ∷ ks) role))
          (passes q (some_elements (elements_of q tables) e))
          ∙ sym (ap (λ (b : Bool).
          cond (b && is_refused earlier Through q) (Some (why_of Through))
          (header_conflict earlier tables to (l ∷ ks) role)) e)

-- ---- a header's conflict

module _ (ms : List Mention) (passes : LetsPass (marks ms) (tables_in ms)) (k : List ℕ) (ks : List (List ℕ)) where
  pub table_met : first_conflict (marks ms) (marks (statement_mentions (end_reading ms) (marks_of.header (k ∷ ks))))
      ≡ header_conflict (marks ms) (tables_in ms) [] (k ∷ ks) Define
  table_met =
      let path : List Part = header_path (tables_in ms) [] (k ∷ ks) in
      ap (λ (l : List Mark). reason (marks ms) l)
      (filter_map-append mark_of (header_prefixes (tables_in ms) [] (k ∷ ks))
      (record { path = path; kind = define } ∷ []))
      ∙ ap (λ (l : List Mark).
      reason l (marks (header_prefixes (tables_in ms) [] (k ∷ ks)) ++ record { role = Define; path = path } ∷ []))
      (sym (append-nil (marks ms)))
      ∙ met (marks ms) (tables_in ms) passes Define [] [] k ks tt

  pub element_met : first_conflict (marks ms)
      (marks (statement_mentions (end_reading ms) (marks_of.element_header (k ∷ ks))))
      ≡ header_conflict (marks ms) (tables_in ms) [] (k ∷ ks) Element
  element_met =
      let path : List Part = header_path (tables_in ms) [] (k ∷ ks) in
      ap (λ (l : List Mark). reason (marks ms) l)
      (filter_map-append mark_of (header_prefixes (tables_in ms) [] (k ∷ ks))
      (record { path = path; kind = kinds_element }
      ∷ record { path = path ++ index (elements_of path (tables_in ms)) ∷ []; kind = begun } ∷ []))
      ∙ ap (λ (l : List Mark).
      reason l (marks (header_prefixes (tables_in ms) [] (k ∷ ks)) ++ record { role = Element; path = path } ∷ []))
      (sym (append-nil (marks ms)))
      ∙ met (marks ms) (tables_in ms) passes Element [] [] k ks tt
