-- `insert` with a new header: from no refusal there is a change, and the new document is right.
--
-- A new header is written where the holder's table has no body and headers go through it alone. There each mention at
-- its path may have a definition after it, which leaves those of headers that go through it: so the path has no fact,
-- no value and no other origin (`through_alone`). The facts after the edit then come from the new header for the
-- holder, from the value for the paths under the new key, and from the old document for all others (`source_section`).
--
-- Theorem: `insert_section`.
use Rattle.std.proofs.Common.{◌≡◌, ℕ, Bool, true, false, cond, not, ◌&&◌, ◌||◌, List, [], ◌∷◌, ◌++◌, length, map, drop}
use Rattle.std.proofs.Common.{refl, sym, ap, subst, ◌∙◌, Option, Some, None, inl, inr}
use Rattle.std.specs.List.{filter_map, cons_option}
use Rattle.std.proofs.lemmas.List.Elements.{filter_map-append}
use Rattle.keep_types.specs.declared.leaf.Profile.{Profile}
use Rattle.keep_syntax.specs.Tree.{Value, Content, blank, keyval, Document}
use Rattle.keep_syntax.specs.Grammar.{IsValue, IsDocument}
use Rattle.keep_meaning.specs.Fact.{Fact, table}
use Rattle.keep_path.specs.Path.{Part, key, same_path}
use Rattle.keep_meaning.specs.Rules.{ObeysRules}
use Rattle.keep_meaning.specs.Marks.{MentionKind, through, past, define, dotted, passed, Mention, start, marks, fact_of}
use Rattle.keep_meaning.specs.Marks as marks_of
use Rattle.keep_meaning.specs.Meaning.{lines, mentions_in, mentions_of_value}
use Rattle.keep_meaning.specs.Nodes.{kinds_at, first_of, is_at, is_root, fact_at, has, is_define, is_begun, is_dotted}
use Rattle.keep_edit_spec.specs.Look.{strip, holder, item_number, keys_in, key_text}
use Rattle.keep_edit_spec.specs.Changed.{Changed}
use Rattle.keep_edit_spec.specs.Lines.{last_line, begins, leads_through, leads_dotted, body_end}
use Rattle.keep_edit_spec.specs.Edits.{insert, change, change_insert, insert_line, end_of, at_line, new_header}
use Rattle.keep_edit_spec.specs.Edits.{new_keyval, name_with}
use Rattle.keep_edit_spec.specs.Refusals.{refusal}
use Rattle.keep_edit_spec.specs.Trees.{source, fact_from, is_through_alone}
use Rattle.keep_edit_spec.specs.Trees as trees
use Rattle.keep_edit_spec.proofs.Common.Runs.{AllOf, SomeOf, Rules, kinds_allow, all_left, same_path-sound}
use Rattle.keep_edit_spec.proofs.Common.LineTexts.{change-is}
use Rattle.keep_edit_spec.proofs.Common.SetLaw.{EachTo}
use Rattle.keep_edit_spec.proofs.Common.SetDocument.{IsLawful}
use Rattle.keep_edit_spec.proofs.Common.SetWhole.{IsSetWhole, EachChange, together}
use Rattle.keep_edit_spec.proofs.Common.Marks.{rules_of_document, rules_of_value}
use Rattle.keep_edit_spec.proofs.Common.LineLaws.{EndsInKey}
use Rattle.keep_edit_spec.proofs.Common.FromMarksLines.{path_ends}
use Rattle.keep_edit_spec.proofs.Common.ValueThere.{fact_head, fact_past}
use Rattle.keep_edit_spec.proofs.Insert.NewPath.{IsNewPath, new_path}
use Rattle.keep_edit_spec.proofs.Common.NewLines.{IsKeyText, valid_at_line, valid_key, valid_name}
use Rattle.keep_edit_spec.proofs.Insert.InsertLine.{later_keys}
use Rattle.keep_edit_spec.proofs.Common.Doubles.{has_some}
use Rattle.keep_edit_spec.proofs.Remove.RemoveRefusal.{NotBegun, lines_begun}
use Rattle.keep_edit_spec.proofs.Insert.SectionLaw.{IsSectionLaw, section_law}
use Rattle.keep_edit_spec.proofs.Insert.SectionFacts.{given_or, section_tree}
use Rattle.keep_edit_spec.proofs.Insert.SectionPlace.{Lets, IsSection, section_at}

-- ---- nothing but headers through it makes the table

plain_fact : (a : MentionKind) → kinds_allow a define ≡ true → is_begun a ≡ false → fact_of a ≡ None
plain_fact through h b = refl
plain_fact past h b = refl
plain_fact marks_of.element h b = refl
plain_fact dotted h b = refl
plain_fact passed h b = refl
plain_fact other h b = absurd cc

no_fact : (a : List Part) (ms : List Mention) → AllOf (Lets a) ms → AllOf (NotBegun a) ms → fact_at a ms ≡ None
no_fact a [] h g = refl
no_fact a (m ∷ ms) h g = by (is_at a m) refl (no_fact a ms h.1 g.1)
  where
    by : (b : Bool) → is_at a m ≡ b → fact_at a ms ≡ None → fact_at a (m ∷ ms) ≡ None
    by false e more = fact_past a m ms e ∙ more
    by true e more =
        let same : m.path ≡ a = same_path-sound m.path a e in
        fact_head a m ms e
        ∙ ap (λ (o : Option Fact). first_of (cons_option o (filter_map fact_of (kinds_at a ms))))
        (plain_fact m.kind (h.0 same).0 (g.0 same)) ∙ more

never_mentioned : (is : MentionKind → Bool) (a : List Part) (ms : List Mention)
    → ((m : Mention) → m.path ≡ a → is m.kind ≡ true → Lets a m → NotBegun a m → ⊥) → AllOf (Lets a) ms
    → AllOf (NotBegun a) ms → has is a ms ≡ false
never_mentioned is a ms never h g = by (has is a ms) refl
  where
    some : (xs : List Mention) → SomeOf (λ (m : Mention). (m.path ≡ a) × (is m.kind ≡ true)) xs → AllOf (Lets a) xs
        → AllOf (NotBegun a) xs → ⊥
    some [] s h g = s
    some (x ∷ xs) (inl s) h g = never x s.0 s.1 h.0 g.0
    some (x ∷ xs) (inr s) h g = some xs s h.1 g.1

    by : (b : Bool) → has is a ms ≡ b → has is a ms ≡ false
    by false e = e
    by true e = absurd (some ms (has_some is a ms e) h g)

not_defined : (a : MentionKind) → is_define a ≡ true → kinds_allow a define ≡ true → ⊥
not_defined define e h = absurd cc
not_defined other e h = absurd cc

not_dotted : (a : MentionKind) → is_dotted a ≡ true → kinds_allow a define ≡ true → ⊥
not_dotted dotted e h = absurd cc
not_dotted other e h = absurd cc

alone_by : (r d b o : Bool) (f : Option Fact) → r ≡ false → d ≡ false → b ≡ false → o ≡ false → f ≡ None
    → (not r && not ((d || b) || (o || (elim f [ None ↦ false | Some x ↦ true ])))) ≡ true
alone_by false false false false None h1 h2 h3 h4 h5 = refl
alone_by true d b o f h1 h2 h3 h4 h5 = absurd cc
alone_by false true b o f h1 h2 h3 h4 h5 = absurd cc
alone_by false false true o f h1 h2 h3 h4 h5 = absurd cc
alone_by false false false true f h1 h2 h3 h4 h5 = absurd cc
alone_by false false false false (Some x) h1 h2 h3 h4 h5 = absurd cc

through_alone : (s : Document) (a : List Part) (n : ℕ) → is_root a ≡ false → IsSection s a n
    → is_through_alone a (mentions_in s) ≡ true
through_alone s a n root sec =
    let ms : List Mention = mentions_in s in
    let ends : EndsInKey a = subst EndsInKey (sym sec.whole) (path_ends sec.path [] sec.first sec.prefix) in
    let begun_none : AllOf (NotBegun a) ms = lines_begun a ends start (lines s) in
    alone_by (is_root a) (has is_define a ms) (has is_begun a ms) (has is_dotted a ms) (fact_at a ms) root
    (never_mentioned is_define a ms (λ m e k lets b. not_defined m.kind k (lets e).0) sec.lets begun_none)
    (never_mentioned is_begun a ms (λ m e k lets b. let no : is_begun m.kind ≡ false = b e in absurd cc) sec.lets
    begun_none)
    (never_mentioned is_dotted a ms (λ m e k lets b. not_dotted m.kind k (lets e).0) sec.lets begun_none)
    (no_fact a ms sec.lets begun_none)

-- ---- where the facts come from

from_section : (ms : List Mention) (a q : List Part) (v : Value) → is_through_alone a ms ≡ true → (b : Bool)
    → same_path q a ≡ b
    → fact_from ms (mentions_of_value v) (cond (b && is_through_alone q ms) trees.a_table (trees.from q))
    ≡ cond b (Some table) (fact_at q ms)
from_section ms a q v h false e = refl
from_section ms a q v h true e =
    let yes : is_through_alone q ms ≡ true =
    subst (λ (p : List Part). is_through_alone p ms ≡ true) (sym (same_path-sound q a e)) h in
    rw yes refl

source_by : (ms : List Mention) (a q : List Part) (v : Value) → is_through_alone a ms ≡ true → (o : Option (List Part))
    → fact_from ms (mentions_of_value v)
    (elim o [
      | Some more ↦ trees.given more
      | None ↦
          cond (same_path q a && is_through_alone q ms) trees.a_table (trees.from q)
    ])
    ≡ given_or v o (cond (same_path q a) (Some table) (fact_at q ms))
source_by ms a q v h (Some more) = refl
source_by ms a q v h None = from_section ms a q v h (same_path q a) refl

source_section : (ms : List Mention) (path q : List Part) (v : Value) → item_number path ms ≡ None
    → is_through_alone (holder path ms) ms ≡ true
    → fact_from ms (mentions_of_value v) (source ms (insert path v) q)
    ≡ given_or v (strip path q) (cond (same_path q (holder path ms)) (Some table) (fact_at q ms))
source_section ms path q v no_item h = rw (no_item, source) (source_by ms (holder path ms) q v h (strip path q))

-- ---- the change

pub no_body : (s : Document) (a : List Part) → end_of s a ≡ None
    → (is_root a ≡ false) × (last_line (begins a) start (lines s) ≡ None)
no_body s [] e = absurd cc
no_body s (p ∷ ps) e = (refl, by (last_line (begins (p ∷ ps)) start (lines s)) e)
  where
    by : (o : Option ℕ) → ◌≡◌ {A = Option ℕ} (elim o [ None ↦ None | Some i ↦ Some (body_end i (lines s)) ]) None
        → o ≡ None
    by None e = refl
    by (Some i) e = absurd cc

pub change_section : (s : Document) (path : List Part) (v : Value) (i : ℕ) → item_number path (mentions_in s) ≡ None
    → end_of s (holder path (mentions_in s)) ≡ None
    → last_line (leads_dotted (holder path (mentions_in s))) start (lines s) ≡ None
    → last_line (leads_through (holder path (mentions_in s))) start (lines s) ≡ Some i
    → (let a : List Part = holder path (mentions_in s) in
    change s (insert path v) ≡ at_line s (body_end i (lines s)) (blank ∷ new_header (keys_in a)
    ∷ new_keyval (drop (length a) path) v ∷ []))
change_section s path v i no_item ends dots found =
    rw (no_item, change_insert) (rw (ends, insert_line) (rw (dots, insert_line) (rw (found, insert_line) refl)))

pub insert_section : (profile : Profile) (limit : ℕ) (s : Document) (path : List Part) (v : Value) (i : ℕ)
    → refusal profile limit s (insert path v) ≡ None → item_number path (mentions_in s) ≡ None
    → end_of s (holder path (mentions_in s)) ≡ None
    → last_line (leads_dotted (holder path (mentions_in s))) start (lines s) ≡ None
    → last_line (leads_through (holder path (mentions_in s))) start (lines s) ≡ Some i
    → AllOf (IsKeyText profile) (keys_in path)
    → IsDocument profile s → ObeysRules (marks (mentions_in s)) → IsValue profile v
    → ObeysRules (marks (mentions_of_value v))
    → (c : Changed Document) × ((change s (insert path v) ≡ Some c) × IsSetWhole profile s (insert path v) c)
insert_section profile limit s path v i granted no_item ends dots found texts valid obeys value_valid value_obeys =
    let ms : List Mention = mentions_in s in
    let rules : Rules ms = rules_of_document s obeys in
    let a : List Part = holder path ms in
    let new : IsNewPath path ms = new_path profile limit ms path v no_item granted in
    let k : List ℕ = new.first in
    let ks : List (List ℕ) = new.more in
    let none = no_body s a ends in
    let n : ℕ = body_end i (lines s) in
    let sec : IsSection s a n = section_at s a i rules none.1 dots found in
    let h : List ℕ = sec.first in
    let hs : List (List ℕ) = sec.prefix in
    let mine : AllOf (IsKeyText profile) (k ∷ ks) = later_keys profile a path (k ∷ ks) new.whole texts in
    let all_keys : keys_in path ≡ (h ∷ hs) ++ keys_in (map key (k ∷ ks)) =
    ap keys_in new.whole ∙ filter_map-append key_text a (map key (k ∷ ks))
    ∙ ap (λ (l : List (List ℕ)). l ++ keys_in (map key (k ∷ ks))) sec.keys in
    let heads : AllOf (IsKeyText profile) (h ∷ hs) =
    all_left (IsKeyText profile) (h ∷ hs) (keys_in (map key (k ∷ ks)))
    (subst (AllOf (IsKeyText profile)) all_keys texts) in
    let contents : List Content = blank ∷ new_header (h ∷ hs) ∷ keyval (name_with (k ∷ ks)) v ∷ [] in
    let o : Option (Changed Document) = at_line s n contents in
    let same : change s (insert path v) ≡ o =
    change_section s path v i no_item ends dots found
    ∙ ap (λ (l : List (List ℕ)). at_line s n (blank ∷ new_header l ∷ new_keyval (drop (length a) path) v ∷ [])) sec.keys
    ∙ ap (λ (l : List (List ℕ)). at_line s n (blank ∷ new_header (h ∷ hs) ∷ keyval (name_with l) v ∷ [])) new.keys in
    let law : EachTo (IsSectionLaw s n a (h ∷ hs) (a ++ map key (k ∷ ks)) v) o =
    section_law profile s n a h hs k ks v sec.place heads mine new.fresh rules (rules_of_value v value_obeys) in
    let good : EachTo (IsDocument profile) o =
    valid_at_line profile s n contents valid
    (tt, ((tt, valid_key profile h hs heads, tt), ((valid_name profile k ks mine, value_valid), tt))) in
    let alone : is_through_alone a ms ≡ true = through_alone s a n none.0 sec in
    let lawful : EachTo (IsLawful s (insert path v)) o = record {
      rules = law.rules;
      tree = λ q. section_tree s n a (h ∷ hs) (a ++ map key (k ∷ ks)) v _ sec.place law q
          ∙ ap (λ (p : List Part). given_or v (strip p q) (cond (same_path q a) (Some table) (fact_at q ms)))
          (sym new.whole)
          ∙ sym (source_section ms path q v no_item alone);
    } in
    let right : EachChange (IsSetWhole profile s (insert path v)) (change s (insert path v)) =
    subst (λ (x : Option (Changed Document)). EachTo (IsDocument profile) x → EachTo (IsLawful s (insert path v)) x
    → EachChange (IsSetWhole profile s (insert path v)) (change s (insert path v))) same
    (λ g l. together profile s (insert path v) (change s (insert path v)) g (change-is s (insert path v)) l) good
    lawful in
    (_, (same, subst (EachChange (IsSetWhole profile s (insert path v))) same right))
