-- `append_element`: a `[[..]]` appended begins an element where there could be nothing but a table.
--
-- The header that is appended is allowed by all mentions of the document (`HeaderConflict`). At the path of its new
-- element there could already be a mention only if a keyval's value had it, since elements are counted (`lines_held`):
-- but then that keyval would be alone at a path on the header's way, against the rules (`never_held`). So the element
-- is new, and its fact is that of a table.
--
-- Theorem: `append_element_is_right`.
use Rattle.std.proofs.Common.{◌≡◌, ℕ, Bool, true, false, cond, List, [], ◌∷◌, ◌++◌, map, refl, sym, ap, subst, ◌∙◌}
use Rattle.std.proofs.Common.{append_assoc, Option, None, inl, inr}
use Rattle.std.proofs.lemmas.List.{map-append}
use Rattle.keep_types.specs.declared.leaf.Profile.{Profile}
use Rattle.keep_syntax.specs.Tree.{Written, Gap, Name, Value, Content, blank, keyval, header, element, Line, Document}
use Rattle.keep_syntax.specs.Grammar.{IsDocument}
use Rattle.keep_path.specs.Path.{Part, key, index, same_path}
use Rattle.keep_meaning.specs.Rules.{ObeysRules}
use Rattle.keep_meaning.specs.Marks as marks_of
use Rattle.keep_meaning.specs.Marks.{MentionKind, through, past, define, element as kinds_element, dotted, value, begun}
use Rattle.keep_meaning.specs.Marks.{passed, item, Mention, below, fact_of, Reading, start, statement_mentions}
use Rattle.keep_meaning.specs.Marks.{header_path, header_prefixes, elements_of, entered_path, passing_mentions, marks}
use Rattle.keep_meaning.specs.Meaning.{keys_of, key_value, further_value, body_fact, valued_mentions, keyed_mentions}
use Rattle.keep_meaning.specs.Meaning.{entries_mentions, keyval_mentions, line_mentions, after_line, lines_mentions}
use Rattle.keep_meaning.specs.Meaning.{reading_after_lines, lines, mentions_in}
use Rattle.std.specs.Prelude.{◌==◌}
use Rattle.keep_meaning.specs.Nodes.{fact_at}
use Rattle.keep_edit_spec.specs.Lines.{plain_line}
use Rattle.keep_edit_spec.specs.Refusals.{tables_in, conflict, refusal}
use Rattle.keep_edit_spec.specs.Edits.{append_element, append, change, key_with}
use Rattle.keep_edit_spec.proofs.Common.Runs.{AllOf, SomeOf, all_join, all_map, some_left, some_right, Rules, exclusive}
use Rattle.keep_edit_spec.proofs.Common.Runs.{IsUnder}
use Rattle.keep_edit_spec.proofs.Common.SetLaw.{EachTo, IsAloneAt, IsSolidAt, keyed_split, map_twice, clash_after}
use Rattle.keep_edit_spec.proofs.Common.SetDocument.{IsLawful, each_to, ends_keys, keyval_alone, under_below}
use Rattle.keep_edit_spec.proofs.Common.SetWhole.{IsSetWhole, EachChange, together}
use Rattle.keep_edit_spec.proofs.Common.LineTexts.{change-is}
use Rattle.keep_edit_spec.proofs.Common.LineLaws.{Reaches, EndsInKey, index_cases, never_root, header_all}
use Rattle.keep_edit_spec.proofs.Common.LineLaws.{header_closed}
use Rattle.keep_edit_spec.proofs.Common.Marks.{rules_of_document}
use Rattle.keep_edit_spec.proofs.Append.AppendLaw.{append_law}
use Rattle.keep_edit_spec.proofs.Common.NewLines.{IsKeyText, valid_key, key_means}
use Rattle.keep_edit_spec.proofs.Append.AppendTable.{tables_stated, no_conflict, valid_append, silent_prefixes}
use Rattle.keep_edit_spec.proofs.Append.AppendTable.{AtMostTable, table_appended, from_cond}

-- ---- a value or an item is at or under the path of a keyval

pub record IsHeld (all : List Mention) (x : Mention) : Type 0 where
  pub prefix : List Part
  pub ends : EndsInKey prefix
  pub under : IsUnder prefix x
  pub alone : SomeOf (IsAloneAt prefix) all

abbrev pub AreHeld : List Mention → List Mention → Type 0
AreHeld all ms = AllOf (λ x. exclusive x.kind ≡ true → IsHeld all x) ms

abbrev pub Open : Mention → Type 0
Open x = exclusive x.kind ≡ false

open_held : (all ms : List Mention) → AllOf Open ms → AreHeld all ms
open_held all [] h = tt
open_held all (x ∷ ms) h = ((λ e. let z : exclusive x.kind ≡ false = h.0 in absurd cc), open_held all ms h.1)

held_wider : (a b all ms : List Mention) → ((p : List Part) → SomeOf (IsAloneAt p) all → SomeOf (IsAloneAt p) (a ++ b))
    → AreHeld all ms → AreHeld (a ++ b) ms
held_wider a b all ms f h =
    all_map (λ x. exclusive x.kind ≡ true → IsHeld all x) (λ x. exclusive x.kind ≡ true → IsHeld (a ++ b) x)
    (λ x g e. let k = g e in record { prefix = k.prefix; ends = k.ends; under = k.under; alone = f k.prefix k.alone })
    ms h

open_below : (s : List Part) (ms : List Mention) → AllOf Open ms → AllOf Open (map (below s) ms)
open_below s [] h = tt
open_below s (m ∷ ms) h = (h.0, open_below s ms h.1)

open_dots : (ks : List (List ℕ)) → AllOf Open (keyed_mentions ks [])
open_dots [] = tt
open_dots (k ∷ []) = tt
open_dots (k ∷ l ∷ ks) =
    open_below (key k ∷ []) (record { path = []; kind = dotted } ∷ keyed_mentions (l ∷ ks) [])
    (refl, open_dots (l ∷ ks))

open_passing : (tables : List (List Part)) (q : List Part) (b : Bool)
    → AllOf Open (cond b (record { path = q; kind = through } ∷ [])
    (record { path = q; kind = past } ∷ record { path = entered_path tables q; kind = passed } ∷ []))
open_passing tables q true = (refl, tt)
open_passing tables q false = (refl, (refl, tt))

pub open_prefixes : (tables : List (List Part)) (at : List Part) (ks : List (List ℕ))
    → AllOf Open (header_prefixes tables at ks)
open_prefixes tables at [] = tt
open_prefixes tables at (k ∷ []) = tt
open_prefixes tables at (k ∷ l ∷ ks) =
    let q : List Part = at ++ key k ∷ [] in
    all_join Open (passing_mentions tables q) (header_prefixes tables (entered_path tables q) (l ∷ ks))
    (open_passing tables q (0 == elements_of q tables)) (open_prefixes tables (entered_path tables q) (l ∷ ks))

keyval_held : (body : List Part) (name : Name) (v : Value)
    → AreHeld (map (below body) (keyval_mentions name v)) (map (below body) (keyval_mentions name v))
keyval_held body name v =
    let keys : List (List ℕ) = keys_of name.key in
    let vs : List Mention = valued_mentions (value (body_fact v.body)) (entries_mentions 0 v.nested) in
    let all : List Mention = map (below body) (keyval_mentions name v) in
    let p : List Part = body ++ map key keys in
    let ways : List Mention = map (below body) (keyed_mentions keys []) in
    let shape : all ≡ ways ++ map (below p) vs =
    ap (map (below body)) (keyed_split keys vs)
    ∙ map-append (below body) (keyed_mentions keys []) (map (below (map key keys)) vs)
    ∙ ap (λ (l : List Mention). ways ++ l) (map_twice body (map key keys) vs) in
    let there : AreHeld all (map (below p) vs) = all_map (IsUnder p) (λ x. exclusive x.kind ≡ true → IsHeld all x)
    (λ x u e.
    record {
      prefix = p;
      ends = ends_keys body (key_value name.key.first) (map further_value name.key.more);
      under = u;
      alone = keyval_alone body name v;
    }) (map (below p) vs) (under_below p vs) in
    subst (AreHeld all) (sym shape)
    (all_join (λ x. exclusive x.kind ≡ true → IsHeld all x) ways (map (below p) vs)
    (open_held all ways (open_below body (keyed_mentions keys []) (open_dots keys))) there)

content_held : (r : Reading) (before after' : Gap) (comment : Option Written) (c : Content)
    → (let l : Line = record { before = before; content = c; after = after'; comment = comment } in
    AreHeld (line_mentions r l) (line_mentions r l))
content_held r before after' comment blank = tt
content_held r before after' comment (keyval name v) = keyval_held r.body name v
content_held r before after' comment (header b k a) =
    open_held _ _ (all_join Open (header_prefixes r.tables [] (keys_of k))
    (record { path = header_path r.tables [] (keys_of k); kind = define } ∷ []) (open_prefixes r.tables [] (keys_of k))
    (refl, tt))
content_held r before after' comment (element b k a) =
    let path : List Part = header_path r.tables [] (keys_of k) in
    open_held _ _ (all_join Open (header_prefixes r.tables [] (keys_of k))
    (record { path = path; kind = kinds_element }
    ∷ record { path = path ++ index (elements_of path r.tables) ∷ []; kind = begun } ∷ [])
    (open_prefixes r.tables [] (keys_of k)) (refl, (refl, tt)))

pub lines_held : (r : Reading) (ls : List Line) → AreHeld (lines_mentions r ls) (lines_mentions r ls)
lines_held r [] = tt
lines_held r (l ∷ ls) =
    let a : List Mention = line_mentions r l in
    let b : List Mention = lines_mentions (after_line r l) ls in
    all_join (λ x. exclusive x.kind ≡ true → IsHeld (a ++ b) x) a b
    (held_wider a b a a (λ p s. some_left (IsAloneAt p) a b s) (content_held r l.before l.after l.comment l.content))
    (held_wider a b b b (λ p s. some_right (IsAloneAt p) a b s) (lines_held (after_line r l) ls))

-- ---- where the new element begins

not_alone_table : (a : MentionKind) → (exclusive a ≡ true → ⊥) → AtMostTable a
not_alone_table through h = inl refl
not_alone_table past h = inl refl
not_alone_table define h = inr refl
not_alone_table kinds_element h = inl refl
not_alone_table dotted h = inl refl
not_alone_table (value f) h = absurd (h refl)
not_alone_table begun h = inr refl
not_alone_table passed h = inl refl
not_alone_table (item f) h = absurd (h refl)

-- beside a header that obeys the rules, no value or item is where its element begins
never_held : (tables : List (List Part)) (k : List ℕ) (ks : List (List ℕ)) (n : ℕ) (ms more : List Mention)
    (x : Mention) → Rules (ms ++ (header_all tables [] (k ∷ ks) kinds_element ++ more))
    → x.path ≡ header_path tables [] (k ∷ ks) ++ index n ∷ [] → IsHeld ms x → ⊥
never_held tables k ks n ms more x rules e h =
    let path : List Part = header_path tables [] (k ∷ ks) in
    let all : List Mention = header_all tables [] (k ∷ ks) kinds_element in
    let reach : Reaches h.prefix path = index_cases h.prefix path n h.ends (subst (Reaches h.prefix) e h.under) in
    let there : SomeOf (IsSolidAt h.prefix) all =
    elim ((header_closed tables h.prefix [] ks k kinds_element refl h.ends).path reach) [
      | inl s ↦ s
      | inr v ↦
          absurd (never_root h.prefix h.ends v)
    ] in
    clash_after h.prefix ms (all ++ more) h.alone (some_left (IsSolidAt h.prefix) all more there) rules

element_lawful : (profile : Profile) (s : Document) (k : List ℕ) (ks : List (List ℕ))
    → AllOf (IsKeyText profile) (k ∷ ks) → ObeysRules (marks (mentions_in s))
    → conflict (marks_of.element_header (k ∷ ks)) (mentions_in s) ≡ None
    → EachTo (IsLawful s (append_element (k ∷ ks))) (append s (element [] (key_with (k ∷ ks)) []))
element_lawful profile s k ks texts obeys free =
    let ms : List Mention = mentions_in s in
    let c : Content = element [] (key_with (k ∷ ks)) [] in
    let r : Reading = reading_after_lines start (lines s) in
    let tables : List (List Part) = tables_in ms in
    let p : List Part = header_path tables [] (k ∷ ks) in
    let n : ℕ = elements_of p tables in
    let prefixes : List Mention = header_prefixes tables [] (k ∷ ks) in
    let top : Mention = record { path = p; kind = kinds_element } in
    let m : Mention = record { path = p ++ index n ∷ []; kind = begun } in
    let all : List Mention = prefixes ++ top ∷ [] in
    let whole : prefixes ++ (top ∷ m ∷ []) ≡ all ++ m ∷ [] = sym (append_assoc prefixes (top ∷ []) (m ∷ [])) in
    let new : line_mentions r (plain_line c) ≡ all ++ m ∷ [] =
    ap (λ (l : List (List ℕ)). statement_mentions r (marks_of.element_header l)) (key_means profile k ks texts)
    ∙ ap (λ (t : List (List Part)).
    statement_mentions (record { tables = t; body = [] }) (marks_of.element_header (k ∷ ks)))
    (tables_stated start (lines s)) ∙ whole in
    let allowed : ObeysRules (marks (ms ++ (all ++ m ∷ []))) =
    subst (λ (l : List Mention). ObeysRules (marks (ms ++ l))) whole
    (no_conflict (marks_of.element_header (k ∷ ks)) ms obeys free) in
    each_to (λ s'. mentions_in s' ≡ ms ++ line_mentions r (plain_line c)) (IsLawful s (append_element (k ∷ ks)))
    (append s c)
    (λ s' is.
    let now : mentions_in s' ≡ ms ++ (all ++ m ∷ []) = is ∙ ap (λ (l : List Mention). ms ++ l) new in
    let rules : Rules (mentions_in s') =
    rules_of_document s' (subst (λ (l : List Mention). ObeysRules (marks l)) (sym now) allowed) in
    let there : Rules (ms ++ (all ++ m ∷ [])) = subst Rules now rules in
    let before : AllOf (λ x. x.path ≡ m.path → AtMostTable x.kind) ms =
    all_map (λ x. exclusive x.kind ≡ true → IsHeld ms x) (λ x. x.path ≡ m.path → AtMostTable x.kind)
    (λ x h e. not_alone_table x.kind (λ y. never_held tables k ks n ms (m ∷ []) x there e (h y))) ms
    (lines_held start (lines s)) in
    record {
      rules = rules;
      tree = λ q. ap (fact_at q) (now ∙ sym (append_assoc ms all (m ∷ [])))
          ∙ table_appended ms all m q (all_join (λ x. fact_of x.kind ≡ None) prefixes (top ∷ [])
          (silent_prefixes tables [] (k ∷ ks)) (refl, tt)) refl before (same_path q m.path) refl
          ∙ sym (from_cond ms q (same_path q m.path));
    })
    (append_law s c)

-- From no refusal: the header is appended, and the new document is right.
pub append_element_is_right : (profile : Profile) (limit : ℕ) (s : Document) (keys : List (List ℕ))
    → refusal profile limit s (append_element keys) ≡ None → AllOf (IsKeyText profile) keys
    → IsDocument profile s → ObeysRules (marks (mentions_in s))
    → EachChange (IsSetWhole profile s (append_element keys)) (change s (append_element keys))
append_element_is_right profile limit s [] granted texts valid obeys = absurd cc
append_element_is_right profile limit s (k ∷ ks) granted texts valid obeys =
    together profile s (append_element (k ∷ ks)) (change s (append_element (k ∷ ks)))
    (valid_append profile s (element [] (key_with (k ∷ ks)) []) valid (tt, valid_key profile k ks texts, tt))
    (change-is s (append_element (k ∷ ks)))
    (element_lawful profile s k ks texts obeys granted)
