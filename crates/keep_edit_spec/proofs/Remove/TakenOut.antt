-- Taking an entry out of an array or of braces: which mentions go, and which stay.
--
-- `IsOut` says which entry goes: some mentions before it stay as they are, its own go, and those of the entries after
-- it have numbers one lower. It holds of the first entry, if the path names it, and else of a later one, with one entry
-- more before it (`out_one`, `out_more`). Where the last entry goes, the one before it loses its comma; that changes no
-- mention.
--
-- Theorems: `entry_out` and `does_remove`.
use Rattle.std.proofs.Common.{◌≡◌, ℕ, ◌+◌, ◌≤◌, Bool, true, false, List, [], ◌++◌, map, refl, sym, ap, subst, ◌∙◌}
use Rattle.std.proofs.Common.{append_assoc, arith, Option, Some, None}
use Rattle.std.specs.Prelude.{codes}
use Rattle.std.proofs.lemmas.List.{map-append, append-nil}
use Rattle.keep_types.specs.declared.leaf.Profile.{Profile}
use Rattle.keep_syntax.specs.Tree.{Gap, Name, Body, scalar, array, inline, Entries, none, entry, Value, text_of}
use Rattle.keep_syntax.specs.Grammar.{IsNamed, AreEntries, IsValue, Place}
use Rattle.keep_meaning.specs.Fact.{Fact}
use Rattle.keep_path.specs.Path.{Part, same_path}
use Rattle.keep_meaning.specs.Marks.{Mention}
use Rattle.keep_meaning.specs.Meaning.{body_fact, entry_mentions, entries_mentions, step}
use Rattle.keep_edit_spec.specs.Changed.{Changed, within}
use Rattle.keep_edit_spec.specs.Values.{Row, take_out, taken_first, taken_only, taken_last, is_last_named, entry_prefix}
use Rattle.keep_edit_spec.specs.Values.{removal}
use Rattle.keep_edit_spec.proofs.Common.Runs.{AllOf, pairs_split, all_join, Allowed, Rules, IsDisjoint, same_path-sound}
use Rattle.keep_edit_spec.proofs.Common.SetLaw.{Held, EachTo, to_within, disjoint_from_held, held_entry, held_further}
use Rattle.keep_edit_spec.proofs.Common.SetLaw.{closed_entries}
use Rattle.keep_edit_spec.proofs.Common.Moves.{moved, down, named_before}
use Rattle.keep_edit_spec.proofs.Common.InValue.{Does}

-- the entry that the path names is gone, and those after it have numbers less by one
pub record IsOut (path : List Part) (k : ℕ) (from to : Entries) : Type 0 where
  pub number : ℕ
  pub enough : k ≤ number
  pub name : Option Name
  pub body : Body
  pub nested : Entries
  pub rest : Entries
  pub named : step number name ≡ path
  pub before : List Mention
  pub was : entries_mentions k from ≡ before
      ++ (entry_mentions number name (body_fact body) (entries_mentions 0 nested) ++ entries_mentions (number + 1) rest)
  pub is : entries_mentions k to ≡ before ++ entries_mentions number rest
  pub stays : map (moved (down number)) before ≡ before
  pub disjoint : Rules (entries_mentions k from) → AllOf (IsDisjoint path) before
  pub held : Held k path (entries_mentions k from)
  pub valid : (profile : Profile) (place : Place) → AreEntries profile place from
      → IsNamed profile place name × AreEntries profile place rest

pub out_when : (P : Row → Type 0) (b : Bool) (c : Changed Row) → (b ≡ true → P c.to)
    → EachTo P (elim b [ true ↦ Some c | false ↦ None ])
out_when P true c h = h refl
out_when P false c h = tt

held_here : (path : List Part) (n : ℕ) (name : Option Name) (f : Fact) (nested rest : List Mention) → step n name ≡ path
    → Held n path (entry_mentions n name f nested ++ rest)
held_here path n name f nested rest e =
    subst (λ (q : List Part). Held n q (entry_mentions n name f nested ++ rest)) (append-nil (step n name) ∙ e)
    (held_entry n name f nested rest [])

out_one : (path : List Part) (k : ℕ) (name : Option Name) (body : Body) (nested : Entries) (after : Gap)
    (comma : Option Gap) (rest : Entries)
    → same_path (step k name) path ≡ true → IsOut path k (entry name body nested after comma rest) rest
out_one path k name body nested after comma rest e =
    let same : step k name ≡ path = same_path-sound (step k name) path e in
    record {
      number = k;
      enough = omega arith;
      name = name;
      body = body;
      nested = nested;
      rest = rest;
      named = same;
      before = [];
      was = refl;
      is = refl;
      stays = refl;
      disjoint = λ rules. tt;
      held = held_here path k name (body_fact body) (entries_mentions 0 nested) (entries_mentions (k + 1) rest) same;
      valid = λ profile place h. (h.0, h.5);
    }

-- after another entry
out_more : (path : List Part) (k : ℕ) (name : Option Name) (body : Body) (nested : Entries) (after : Gap)
    (comma : Option Gap) (rest : Entries) (after' : Gap) (comma' : Option Gap) (rest' : Entries)
    → IsOut path (k + 1) rest rest'
    → IsOut path k (entry name body nested after comma rest) (entry name body nested after' comma' rest')
out_more path k name body nested after comma rest after' comma' rest' t =
    let first : List Mention = entry_mentions k name (body_fact body) (entries_mentions 0 nested) in
    let run : List Mention = entry_mentions t.number t.name (body_fact t.body) (entries_mentions 0 t.nested) in
    let few : k ≤ t.number = (let e : k + 1 ≤ t.number = t.enough in omega arith) in
    record {
      number = t.number;
      enough = few;
      name = t.name;
      body = t.body;
      nested = t.nested;
      rest = t.rest;
      named = t.named;
      before = first ++ t.before;
      was = ap (λ l. first ++ l) t.was
          ∙ sym (append_assoc first t.before (run ++ entries_mentions (t.number + 1) t.rest));
      is = ap (λ l. first ++ l) t.is ∙ sym (append_assoc first t.before (entries_mentions t.number t.rest));
      stays = map-append (moved (down t.number)) first t.before
          ∙ ap (λ l. l ++ map (moved (down t.number)) t.before)
          (named_before t.number k name (body_fact body) (entries_mentions 0 nested) few)
          ∙ ap (λ l. first ++ l) t.stays;
      disjoint = λ rules. all_join (IsDisjoint path) first t.before
          (disjoint_from_held k path name (body_fact body) (entries_mentions 0 nested) (entries_mentions (k + 1) rest)
          (closed_entries 0 nested) t.held rules)
          (t.disjoint (pairs_split Allowed first (entries_mentions (k + 1) rest) rules).right);
      held = held_further k path first (entries_mentions (k + 1) rest) t.held;
      valid = λ profile place h. t.valid profile place h.5;
    }

last_same : (path : List Part) (n : ℕ) (name : Option Name) (body : Body) (nested : Entries) (after : Gap)
    (comma : Option Gap) (rest : Entries)
    → is_last_named path n (entry name body nested after comma rest) ≡ true
    → IsOut path n (entry name body nested after comma rest) none
last_same path n name body nested after None none e = out_one path n name body nested after None none e
last_same path n name body nested after (Some g) rest e = absurd cc
last_same path n name body nested after None (entry n2 b2 i2 a2 c2 r2) e = absurd cc

out_two : (path : List Part) (k : ℕ) (gap : Gap) (name : Option Name) (body : Body) (nested : Entries)
    (after next_gap : Gap)
    (name' : Option Name) (body' : Body) (nested' : Entries) (after' : Gap) (comma' : Option Gap) (rest' : Entries)
    (further : Option (Changed Row)) → (b c : Bool) → same_path (step k name) path ≡ b
    → is_last_named path (k + 1) (entry name' body' nested' after' comma' rest') ≡ c
    → EachTo (λ r. IsOut path (k + 1) (entry name' body' nested' after' comma' rest') r.entries) further
    → EachTo {A =
    Row} (λ r.
    IsOut path k (entry name body nested after (Some next_gap) (entry name' body' nested' after' comma' rest'))
    r.entries) (elim b [
      | true ↦ Some (taken_first gap name body nested after next_gap (entry name' body' nested' after' comma' rest'))
      | false ↦ elim c [
        | true ↦ Some (taken_last gap name body nested after next_gap name' body' nested' after')
        | false ↦ within (λ r. record { gap = gap; entries = entry name body nested after (Some r.gap) r.entries })
            (text_of gap ++ (entry_prefix name body nested ++ (text_of after ++ codes ","))) [] further
      ]
    ])
out_two path k gap name body nested after next_gap name' body' nested' after' comma' rest' further true c e e' ih =
    out_one path k name body nested after (Some next_gap) (entry name' body' nested' after' comma' rest') e
out_two path k gap name body nested after next_gap name' body' nested' after' comma' rest' further false true e e' ih =
    out_more path k name body nested after (Some next_gap) (entry name' body' nested' after' comma' rest') _ _ none
    (last_same path (k + 1) name' body' nested' after' comma' rest' e')
out_two path k gap name body nested after next_gap name' body' nested' after' comma' rest' further false false e e' ih =
    to_within (λ r. IsOut path (k + 1) (entry name' body' nested' after' comma' rest') r.entries)
    (λ r. IsOut path k (entry name body nested after (Some next_gap) (entry name' body' nested' after' comma' rest'))
    r.entries)
    (λ r. record { gap = gap; entries = entry name body nested after (Some r.gap) r.entries }) _ [] further
    (λ r t. out_more path k name body nested after (Some next_gap) (entry name' body' nested' after' comma' rest') after
    (Some r.gap) r.entries t) ih

pub entry_out : (path : List Part) (k : ℕ) (gap : Gap) (es : Entries)
    → EachTo (λ r. IsOut path k es r.entries) (take_out path k gap es)
entry_out path k gap none = tt
entry_out path k gap (entry name body nested after None none) =
    out_when (λ r. IsOut path k (entry name body nested after None none) r.entries) (same_path (step k name) path)
    (taken_only gap name body nested after)
    (λ e. out_one path k name body nested after None none e)
entry_out path k gap (entry name body nested after None (entry name' body' nested' after' comma' rest')) = tt
entry_out path k gap (entry name body nested after (Some next_gap) none) =
    out_when (λ r. IsOut path k (entry name body nested after (Some next_gap) none) r.entries)
    (same_path (step k name) path) (taken_first gap name body nested after next_gap none)
    (λ e. out_one path k name body nested after (Some next_gap) none e)
entry_out path k gap (entry name body nested after (Some next_gap) (entry name' body' nested' after' comma' rest')) =
    out_two path k gap name body nested after next_gap name' body' nested' after' comma' rest'
    (take_out path (k + 1) next_gap (entry name' body' nested' after' comma' rest'))
    (same_path (step k name) path) (is_last_named path (k + 1) (entry name' body' nested' after' comma' rest')) refl
    refl
    (entry_out path (k + 1) next_gap (entry name' body' nested' after' comma' rest'))

-- what `removal` does with a value
pub record IsRemoved (profile : Profile) (path : List Part) (old now : Value) : Type 0 where
  pub fact : body_fact now.body ≡ body_fact old.body
  pub out : IsOut path 0 old.nested now.nested
  pub valid : IsValue profile old

pub does_remove : (profile : Profile) → Does profile (IsRemoved profile) removal
does_remove profile path v valid = by v.body v.nested valid
  where
    by : (body : Body) (nested : Entries) → IsValue profile (record { body = body; nested = nested })
        → EachTo (IsRemoved profile path (record { body = body; nested = nested }))
        (removal path (record { body = body; nested = nested }))
    by (scalar w) nested valid = tt
    by (array first) nested valid =
        to_within (λ r. IsOut path 0 nested r.entries)
        (IsRemoved profile path (record { body = array first; nested = nested }))
        (λ r. record { body = array r.gap; nested = r.entries }) (codes "[") (codes "]")
        (take_out path 0 first nested) (λ r h. record { fact = refl; out = h; valid = valid })
        (entry_out path 0 first nested)
    by (inline first) nested valid =
        to_within (λ r. IsOut path 0 nested r.entries)
        (IsRemoved profile path (record { body = inline first; nested = nested }))
        (λ r. record { body = inline r.gap; nested = r.entries }) (codes "{") (codes "}")
        (take_out path 0 first nested) (λ r h. record { fact = refl; out = h; valid = valid })
        (entry_out path 0 first nested)
