-- Where an entry is put in among entries: before one of them, or after the last that goes past a path.
--
-- `IsEntryAt` gives the entry that the place is beside: what is said before it, which values are stored before it, and
-- where its text begins. An entry is the first, or it is one of the later ones, and then what is stored before it has
-- one entry more (`at_first`, `at_later`). With these the place before an item is the start of that item (`before_at`),
-- and the place after an entry is the end of its value (`after_at`), both by induction over the entries.
--
-- Theorems: `before_at` and `after_at`.
use Rattle.std.proofs.Common.{◌≡◌, ℕ, zero, suc, ◌+◌, Bool, true, false, List, [], ◌∷◌, ◌++◌, length, refl, sym, ap}
use Rattle.std.proofs.Common.{◌∙◌, append_assoc, length-append, arith, Option, Some, None}
use Rattle.std.specs.Prelude.{codes}
use Rattle.std.proofs.lemmas.List.{append-nil}
use Rattle.keep_types.specs.declared.leaf.Profile.{Profile}
use Rattle.keep_types.specs.declared.syntax.Start.{Start}
use Rattle.keep_types.specs.declared.syntax.ValueInfo.{ValueInfo}
use Rattle.keep_syntax.specs.Tree as Tree
use Rattle.keep_syntax.specs.Tree.{Gap, Name, named_leaves, comma_leaves, Body, Entries, none, entry, Value, text_of}
use Rattle.keep_syntax.specs.Grammar.{AreEntries, Place}
use Rattle.keep_syntax.specs.Numbered.{value_start, comma_start, comma_place, name_count, info, nested_of, rest_of}
use Rattle.keep_syntax.specs.Numbered.{entries_values}
use Rattle.keep_meaning.specs.Marks.{Mention}
use Rattle.keep_path.specs.Path.{Part}
use Rattle.keep_meaning.specs.Meaning.{body_fact, entry_mentions, entries_mentions}
use Rattle.keep_meaning.proofs.Shared.{valued, valued-append, valued-entries, length-entries_values}
use Rattle.keep_edit_spec.specs.Changed.{Changed, within, or_else}
use Rattle.keep_edit_spec.specs.Values.{entries_text, entry_prefix, entry_back, space, put_before, put_after}
use Rattle.keep_edit_spec.specs.Values.{leads_past, text_of_value}
use Rattle.keep_edit_spec.proofs.Common.DoneAtValue.{EachOf, of_within}
use Rattle.keep_edit_spec.proofs.Common.FoundValue.{valued-entry, prefix_ends}
use Rattle.keep_edit_spec.proofs.Remove.RemoveEntry.{prefix_long}
use Rattle.keep_edit_spec.proofs.Insert.PutIn.{size, within_none}
use Rattle.keep_edit_spec.proofs.Insert.NamedEntries.{EachEntry}

-- One of these entries: what is said of it, and its value, with those before and after.
pub record IsEntryAt (P : ℕ → Option Name → Type 0) (k : ℕ) (p : Start) (es : Entries) : Type 0 where
  pub number : ℕ
  pub begin : Start
  pub name : Option Name
  pub body : Body
  pub nested : Entries
  pub after : Gap
  pub comma : Option Gap
  pub rest : Entries
  pub earlier : List Mention
  pub prefix : List ValueInfo
  pub mentioned : entries_mentions k es ≡ earlier
      ++ (entry_mentions number name (body_fact body) (entries_mentions 0 nested) ++ entries_mentions (number + 1) rest)
  pub values : entries_values p es ≡ prefix ++ entries_values begin (entry name body nested after comma rest)
  pub count : valued earlier ≡ length prefix
  pub depth : begin.depth ≡ p.depth
  pub left : number + suc (size rest) ≡ k + size es
  pub valid : (profile : Profile) (place : Place) → AreEntries profile place es
      → AreEntries profile place (entry name body nested after comma rest)
  pub each : EachEntry P k es → EachEntry P (number + 1) rest

-- its value
abbrev pub own_of : (P : ℕ → Option Name → Type 0) (k : ℕ) (p : Start) (es : Entries) → IsEntryAt P k p es → ValueInfo
own_of P k p es e =
    info e.begin (value_start e.begin.at e.name) (name_count e.name) e.body e.nested
    (comma_place (comma_start e.begin.at e.name e.body e.nested e.after) e.comma)

at_first : (P : ℕ → Option Name → Type 0) (k : ℕ) (p : Start) (name : Option Name) (body : Body) (nested : Entries)
    (after : Gap) (comma : Option Gap) (rest : Entries) → IsEntryAt P k p (entry name body nested after comma rest)
at_first P k p name body nested after comma rest = record {
  number = k;
  begin = p;
  name = name;
  body = body;
  nested = nested;
  after = after;
  comma = comma;
  rest = rest;
  earlier = [];
  prefix = [];
  mentioned = refl;
  values = refl;
  count = refl;
  depth = refl;
  left = refl;
  valid = λ profile place h. h;
  each = λ h. h.1;
}

at_later : (P : ℕ → Option Name → Type 0) (k : ℕ) (p : Start) (name : Option Name) (body : Body) (nested : Entries)
    (after : Gap) (comma : Option Gap) (rest : Entries)
    → IsEntryAt P (k + 1) (rest_of p name body nested after comma) rest
    → IsEntryAt P k p (entry name body nested after comma rest)
at_later P k p name body nested after comma rest e =
    let first : List Mention = entry_mentions k name (body_fact body) (entries_mentions 0 nested) in
    let i : Start = nested_of p (value_start p.at name) (name_count name) body in
    let own : List ValueInfo =
    info p (value_start p.at name) (name_count name) body nested
    (comma_place (comma_start p.at name body nested after) comma) ∷ entries_values i nested in
    let many : valued first ≡ length own =
    omega (
      arith,
      valued-entry k name (body_fact body) (entries_mentions 0 nested),
      valued-entries 0 nested,
      length-entries_values i nested,
    ) in
    record {
      number = e.number;
      begin = e.begin;
      name = e.name;
      body = e.body;
      nested = e.nested;
      after = e.after;
      comma = e.comma;
      rest = e.rest;
      earlier = first ++ e.earlier;
      prefix = own ++ e.prefix;
      mentioned = ap (λ (l : List Mention). first ++ l) e.mentioned
          ∙ sym (append_assoc first e.earlier
          (entry_mentions e.number e.name (body_fact e.body) (entries_mentions 0 e.nested)
          ++ entries_mentions (e.number + 1) e.rest));
      values =
          ap (λ (l : List ValueInfo). own ++ l) e.values
          ∙ sym (append_assoc own e.prefix
          (entries_values e.begin (entry e.name e.body e.nested e.after e.comma e.rest)));
      count = omega (arith, many, e.count, valued-append first e.earlier, length-append own e.prefix);
      depth = e.depth;
      left = omega (arith, e.left);
      valid = λ profile place h. e.valid profile place h.5;
      each = λ h. e.each h.1;
    }

-- ---- before an item

pub record IsBefore (P : ℕ → Option Name → Type 0) (new : Value) (n k : ℕ) (p : Start) (es : Entries)
    (d : Changed Entries) : Type 0 where
  pub entry : IsEntryAt P k p es
  pub number : entry.number ≡ n
  pub start : p.at + length d.before ≡ entry.begin.at
  pub given : d.new ≡ text_of_value new ++ codes ", "
  pub after : d.after ≡ entries_text (Tree.entry entry.name entry.body entry.nested entry.after entry.comma entry.rest)

pub before_at : (P : ℕ → Option Name → Type 0) (new : Value) (k m : ℕ) (p : Start) (es : Entries)
    → EachOf (IsBefore P new (k + m) k p es) (put_before m new es)
unfolding at_first at_later
before_at P new k m p none = tt
before_at P new k zero p (entry name body nested after comma rest) =
    record {
      entry = at_first P k p name body nested after comma rest;
      number = omega arith;
      start = omega arith;
      given = refl;
      after = refl;
    }
before_at P new k (suc m) p (entry name body nested after comma rest) =
    let r : Start = rest_of p name body nested after comma in
    let left : List ℕ = entry_prefix name body nested ++ (text_of after ++ text_of (comma_leaves comma)) in
    of_within (IsBefore P new (k + 1 + m) (k + 1) r rest)
    (IsBefore P new (k + suc m) k p (entry name body nested after comma rest)) (entry name body nested after comma) left
    [] (put_before m new rest)
    (λ d h. record {
      entry = at_later P k p name body nested after comma rest h.entry;
      number = omega (arith, h.number);
      start = omega (arith, h.start, prefix_ends p.at name body nested after comma, length-append left d.before);
      given = h.given;
      after = append-nil d.after ∙ h.after;
    })
    (before_at P new (k + 1) m r rest)

-- ---- after the last entry that goes past a path

pub record IsAfterEntry (P : ℕ → Option Name → Type 0) (prefix : List Part) (named : Option Name) (new : Value) (k : ℕ)
    (p : Start) (es : Entries) (d : Changed Entries) : Type 0 where
  pub entry : IsEntryAt P k p es
  pub goes : leads_past prefix entry.name ≡ true
  pub last : put_after prefix named new entry.rest ≡ None
  pub end : p.at + length d.before ≡ (own_of P k p es entry).span.end
  pub given : d.new ≡ codes ", " ++ (text_of (named_leaves named) ++ text_of_value new)
  pub after : d.after ≡ entry_back entry.after entry.comma entry.rest

of_either : {A : Type 0} (P : Changed A → Type 0) (o p : Option (Changed A)) → EachOf P o → (o ≡ None → EachOf P p)
    → EachOf P (or_else o p)
of_either P None p h g = g refl
of_either P (Some c) p h g = h

pub after_at : (P : ℕ → Option Name → Type 0) (prefix : List Part) (named : Option Name) (new : Value) (k : ℕ)
    (p : Start) (es : Entries) → EachOf (IsAfterEntry P prefix named new k p es) (put_after prefix named new es)
unfolding at_first at_later
after_at P prefix named new k p none = tt
after_at P prefix named new k p (entry name body nested after comma rest) =
    let es : Entries = entry name body nested after comma rest in
    let r : Start = rest_of p name body nested after comma in
    let left : List ℕ = entry_prefix name body nested ++ (text_of after ++ text_of (comma_leaves comma)) in
    of_either (IsAfterEntry P prefix named new k p es)
    (within (entry name body nested after comma) left [] (put_after prefix named new rest)) _
    (of_within (IsAfterEntry P prefix named new (k + 1) r rest) (IsAfterEntry P prefix named new k p es)
    (entry name body nested after comma) left [] (put_after prefix named new rest)
    (λ d h. record {
      entry = at_later P k p name body nested after comma rest h.entry;
      goes = h.goes;
      last = h.last;
      end = omega (arith, h.end, prefix_ends p.at name body nested after comma, length-append left d.before);
      given = h.given;
      after = append-nil d.after ∙ h.after;
    })
    (after_at P prefix named new (k + 1) r rest))
    (λ e. by (leads_past prefix name) refl
    (within_none (entry name body nested after comma) left [] (put_after prefix named new rest) e))
  where
    by : (b : Bool) → leads_past prefix name ≡ b → put_after prefix named new rest ≡ None
        → EachOf {A = Entries} (IsAfterEntry P prefix named new k p (entry name body nested after comma rest)) (elim b [
          | false ↦ None
          | true ↦ Some (record {
            to = entry name body nested [] (Some space) (entry named new.body new.nested after comma rest);
            before = entry_prefix name body nested;
            old = [];
            new = codes ", " ++ (text_of (named_leaves named) ++ text_of_value new);
            after = entry_back after comma rest;
          })
        ])
    by false e empty = tt
    by true e empty =
        record {
          entry = at_first P k p name body nested after comma rest;
          goes = e;
          last = empty;
          end = sym (prefix_long p.at name body nested);
          given = refl;
          after = refl;
        }
