-- `insert` of a key into braces: from no refusal there is a change, and the new document is right.
--
-- Where no line has to do with the holder (`no_lines`), the holder is in a keyval's value (`HolderThere`), and since it
-- is a table it is there by braces. The keyval is put after the last entry that goes past the holder's path, or first
-- in empty braces. What is put into the braces is what `BraceDotted` and `PutIn` say of entries; around them nothing
-- changes.
--
-- Theorem: `insert_braces`.
use Rattle.std.proofs.Common.{◌≡◌, ℕ, suc, ◌≤◌, Bool, true, false, not, ◌||◌, List, [], ◌∷◌, ◌++◌, length, map, drop}
use Rattle.std.proofs.Common.{refl, sym, ap, subst, ◌∙◌, append_assoc, arith, Option, Some, None, inl, inr}
use Rattle.std.specs.List.{list_any}
use Rattle.std.proofs.lemmas.List.{append-nil}
use Rattle.std.proofs.lemmas.List.Elements.{filter_map-append}
use Rattle.std.proofs.lemmas.Bool.{and_parts}
use Rattle.keep_types.specs.declared.leaf.Profile.{Profile}
use Rattle.keep_syntax.specs.Tree.{Line, Value, Document, value_depth}
use Rattle.keep_meaning.specs.Fact.{Fact, is_value_fact}
use Rattle.keep_path.specs.Path.{Part, key}
use Rattle.keep_meaning.specs.Marks.{Mention, start}
use Rattle.keep_meaning.specs.Meaning.{body_fact, lines, lines_mentions, mentions_in, mentions_of_value}
use Rattle.keep_meaning.specs.Nodes.{is_at, is_node, is_root, fact_at, has, is_element}
use Rattle.keep_edit_spec.specs.Look.{holder, item_number, is_table, is_table_fact, enclosing, keys_in, key_text}
use Rattle.keep_edit_spec.specs.Lines.{last_line, leads_dotted, leads_through}
use Rattle.keep_edit_spec.specs.Values.{put_named}
use Rattle.keep_edit_spec.specs.Edits.{insert, change, change_insert, insert_line, nested, end_of, name_with}
use Rattle.keep_edit_spec.specs.Refusals.{refusal, has_value}
use Rattle.keep_edit_spec.specs.Trees.{is_through_alone}
use Rattle.keep_edit_spec.specs.Laws.{IsEditable, IsGivenValue}
use Rattle.keep_edit_spec.proofs.Common.Runs.{AllOf, SomeOf, all_right, Rules, IsDisjoint}
use Rattle.keep_edit_spec.proofs.Common.Marks.{rules_of_document, rules_of_value}
use Rattle.keep_edit_spec.proofs.Insert.NewPath.{IsNewPath, new_path}
use Rattle.keep_edit_spec.proofs.Common.NewLines.{IsKeyText}
use Rattle.keep_edit_spec.proofs.Common.InsertLaw.{IsKeyvalLaw, fresh_disjoint}
use Rattle.keep_edit_spec.proofs.Insert.InsertLine.{insert_whole}
use Rattle.keep_edit_spec.proofs.Insert.InsertSection.{no_body}
use Rattle.keep_edit_spec.proofs.Common.ValueThere.{fact_of_has}
use Rattle.keep_edit_spec.proofs.Common.DoneAtValue.{value_fact-body}
use Rattle.keep_edit_spec.proofs.Common.DoneInDocument.{keyval_facts}
use Rattle.keep_edit_spec.proofs.Insert.Gives.{IsNamedAt}
use Rattle.keep_edit_spec.proofs.Insert.GivesLines.{keyval_path}
use Rattle.keep_edit_spec.proofs.Insert.DoneThere.{IsDoneThere}
use Rattle.keep_edit_spec.proofs.Insert.HolderThere.{IsInKeyval, holder_keyval}
use Rattle.keep_edit_spec.proofs.Insert.BracesPlace.{is_inline, bracket_inline, IsBracesPlace, deep_by, braces_there}
use Rattle.keep_edit_spec.proofs.Insert.InsertWhole.{IsInsertedWhole, has_lines, shallow_there}
use Rattle.keep_edit_spec.proofs.Insert.LinesNamed.{named_of}
use Rattle.keep_edit_spec.proofs.Insert.ValuedPrefix.{valued_prefix}
use Rattle.keep_edit_spec.proofs.Insert.PutDepth.{enclosing_more}
use Rattle.keep_edit_spec.proofs.Insert.BracesStops.{rest_name}
use Rattle.keep_edit_spec.proofs.Insert.BracesLaw.{law_there, plain_there}

-- ---- the place

pub record HasNoLines (s : Document) (a : List Part) : Type 0 where
  pub ends : end_of s a ≡ None
  pub dots : last_line (leads_dotted a) start (lines s) ≡ None
  pub through : last_line (leads_through a) start (lines s) ≡ None

pub no_lines : (s : Document) (a : List Part) → has_lines s a ≡ false → HasNoLines s a
no_lines s a h =
    by (end_of s a) refl (last_line (leads_dotted a) start (lines s)) refl (last_line (leads_through a) start (lines s))
    refl h
  where
    by : (o : Option ℕ) → end_of s a ≡ o → (p : Option ℕ) → last_line (leads_dotted a) start (lines s) ≡ p
        → (q : Option ℕ) → last_line (leads_through a) start (lines s) ≡ q
        → elim o [ Some n ↦ true | None ↦ elim p [ Some i ↦ true | None ↦ elim q [ Some i ↦ true | None ↦ false ] ] ]
        ≡ false → HasNoLines s a
    by (Some n) e p k q m h = absurd cc
    by None e (Some i) k q m h = absurd cc
    by None e None k (Some i) m h = absurd cc
    by None e None k None m h = record { ends = e; dots = k; through = m }

right_of : (a b : Bool) → (a || b) ≡ true → a ≡ false → b ≡ true
right_of false b h e = h
right_of true b h e = absurd cc

not_true : (b : Bool) → not b ≡ true → b ≡ false
not_true false h = refl
not_true true h = absurd cc

-- the braces of the holder of a new path, if no line is
record IsHeldThere (s : Document) (h : List Part) (k : List ℕ) : Type 0 where
  at : List Part
  dots : List Part
  whole : h ≡ at ++ dots
  place : IsBracesPlace s at dots k

held_there : (s : Document) (h : List Part) (k : List ℕ) → Rules (mentions_in s) → is_node h (mentions_in s) ≡ true
    → is_table h (mentions_in s) ≡ true → list_any (is_at (h ++ key k ∷ [])) (mentions_in s) ≡ false
    → has_lines s h ≡ false
    → IsHeldThere s h k
held_there s h k rules node table fresh none_lines =
    let ms : List Mention = mentions_in s in
    let n : HasNoLines s h = no_lines s h none_lines in
    let body = no_body s h n.ends in
    let there : list_any (is_at h) ms ≡ true = right_of (is_root h) (list_any (is_at h) ms) node body.0 in
    let no_element : has is_element h ms ≡ false =
    not_true (has is_element h ms) (and_parts (is_table_fact (fact_at h ms)) (not (has is_element h ms)) table).1 in
    let inner : IsInKeyval s h = holder_keyval s h there body.1 n.dots n.through no_element in
    let p : List Part = keyval_path inner.pre inner.name in
    let facts =
    keyval_facts inner.pre inner.post inner.line inner.name inner.value inner.content
    (subst (λ (ls : List Line). Rules (lines_mentions start ls)) inner.was rules) in
    let fact : fact_at p ms ≡ Some (body_fact inner.value.body) =
    ap (λ (ls : List Line). fact_at p (lines_mentions start ls)) inner.was
    ∙ ap (λ (x : List Part). fact_at x (lines_mentions start (inner.pre ++ inner.line ∷ inner.post)))
    (sym (append-nil p)) ∙ facts.facts [] in
    let valued : has_value p ms ≡ true =
    ap (λ (o : Option Fact). elim o [ None ↦ false | Some f ↦ is_value_fact f ]) fact
    ∙ value_fact-body inner.value.body in
    elim (valued_prefix (λ x. has_value x ms) h) [
      | inl v ↦
          (let (f, e, is) = fact_of_has v.at ms v.passes in
          record {
            at = v.at;
            dots = v.dots;
            whole = v.whole;
            place = record {
              fact = f;
              here = e;
              valued = is;
              none = v.none;
              fresh = subst (λ (x : List Part). AllOf (IsDisjoint (x ++ key k ∷ [])) ms) v.whole
                  (fresh_disjoint (h ++ key k ∷ []) (lines s) (h, k, refl) fresh);
              table = subst (λ (x : List Part). is_table x ms ≡ true) v.whole table;
              named = subst (λ (x : List Part). SomeOf (IsNamedAt x) ms) v.whole (named_of h ms there);
            };
          })
      | inr never ↦ (let no_value : has_value p ms ≡ false = never p inner.rest inner.whole in absurd cc)
    ]

-- ---- the change

pub change_braces : (s : Document) (path : List Part) (v : Value) → item_number path (mentions_in s) ≡ None
    → HasNoLines s (holder path (mentions_in s))
    → change s (insert path v) ≡ nested (put_named name_with (length (drop (length (holder path (mentions_in s))) path))
    v) path s
change_braces s path v no_item n =
    rw (no_item, change_insert) (rw (n.ends, insert_line) (rw (n.dots, insert_line) (rw (n.through, insert_line) refl)))

first_part : (dots : List Part) (k : List ℕ) (ks : List (List ℕ))
    → (p : Part) × (ps : List Part) × (dots ++ map key (k ∷ ks) ≡ p ∷ ps)
first_part [] k ks = (key k, map key ks, refl)
first_part (d ∷ ds) k ks = (d, ds ++ map key (k ∷ ks), refl)

-- From no refusal: the keyval is put into the braces, and the new document is right.
pub insert_braces : (profile : Profile) (limit : ℕ) (s : Document) (path : List Part) (new : Value)
    → IsEditable profile limit s → IsGivenValue profile new → AllOf (IsKeyText profile) (keys_in path)
    → item_number path (mentions_in s) ≡ None → has_lines s (holder path (mentions_in s)) ≡ false
    → refusal profile limit s (insert path new) ≡ None → IsInsertedWhole profile limit s path new
insert_braces profile limit s path new editable given texts no_item none_lines allowed =
    let ms : List Mention = mentions_in s in
    let rules : Rules ms = rules_of_document s editable.obeys in
    let new_rules : Rules (mentions_of_value new) = rules_of_value new given.obeys in
    let n : IsNewPath path ms = new_path profile limit ms path new no_item allowed in
    let h : List Part = holder path ms in
    let k : List ℕ = n.first in
    let ks : List (List ℕ) = n.more in
    let b : IsHeldThere s h k = held_there s h k rules n.node n.table n.fresh none_lines in
    let rest : List Part = b.dots ++ map key (k ∷ ks) in
    let whole : path ≡ b.at ++ rest =
    n.whole ∙ ap (λ (x : List Part). x ++ map key (k ∷ ks)) b.whole ∙ append_assoc b.at b.dots (map key (k ∷ ks)) in
    let mine : AllOf (IsKeyText profile) (keys_in rest) =
    all_right (IsKeyText profile) (keys_in b.at) (keys_in rest)
    (subst (AllOf (IsKeyText profile)) (ap keys_in whole ∙ filter_map-append key_text b.at rest) texts) in
    let d : IsDoneThere profile is_inline (put_named name_with (length (map key (k ∷ ks))) new) rest b.at s =
    braces_there profile s b.at b.dots k ks b.place new editable.valid rules (rest_name profile b.dots k ks mine)
    given.valid in
    let is : change s (insert path new) ≡ Some d.changed =
    change_braces s path new no_item (no_lines s h none_lines)
    ∙ ap (λ (l : List Part). nested (put_named name_with (length l) new) path s) n.rest
    ∙ ap (λ (x : List Part). nested (put_named name_with (length (map key (k ∷ ks))) new) x s) whole ∙ d.is in
    let plain : is_through_alone h ms ≡ false =
    subst (λ (x : List Part). is_through_alone x ms ≡ false) (sym b.whole)
    (plain_there profile s b.at b.dots k ks b.place new rules new_rules mine d) in
    let law : IsKeyvalLaw s path new d.changed.to =
    subst (λ (x : List Part). IsKeyvalLaw s x new d.changed.to) (sym whole)
    (law_there profile s b.at b.dots k ks b.place new rules new_rules mine d) in
    let (p, ps, cut) = first_part b.dots k ks in
    let inner : suc (enclosing b.at ms) ≤ enclosing path ms =
    subst (λ (x : List Part). suc (enclosing b.at ms) ≤ enclosing x ms)
    (sym (whole ∙ ap (λ (x : List Part). b.at ++ x) cut))
    (enclosing_more b.at p ps ms d.old d.holds (bracket_inline d.old.body d.fit)) in
    record {
      changed = d.changed;
      is = is;
      whole = insert_whole profile s path new d.changed is no_item plain law d.valid;
      low = omega (
        arith,
        d.low (suc (value_depth new)) (λ v e. deep_by profile s b.at b.dots k ks b.place new v e),
        inner,
        shallow_there profile limit s path new no_item allowed,
        editable.shallow,
      );
    }
