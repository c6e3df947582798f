-- Putting an entry into an array or into braces: which mentions come, and which stay.
--
-- `IsPutIn` says where: after some mentions, with a number, before the entries that are left, whose numbers go up by
-- one. It holds of an entry put before the item of a number (`item_before`, by induction over the number), and after
-- the last entry whose key goes past a path (`entry_after`, by induction over the entries). The entries before stay at
-- their numbers, and none of them is at the new one's.
--
-- Theorems: `item_before` and `entry_after`; `few_items` and `none_after` where there is no such place.
use Rattle.std.proofs.Common.{◌≡◌, ℕ, zero, suc, ◌+◌, ◌<◌, ◌≤◌, Bool, true, false, List, [], ◌∷◌, ◌++◌, map, refl, sym}
use Rattle.std.proofs.Common.{ap, subst, ◌∙◌, append_assoc, arith, Option, Some, None}
use Rattle.std.specs.Prelude.{codes}
use Rattle.std.proofs.lemmas.List.{map-append}
use Rattle.keep_types.specs.declared.leaf.Profile.{Profile}
use Rattle.keep_syntax.specs.Tree.{Gap, Name, named_leaves, comma_leaves, Body, Entries, none, entry, Value, text_of}
use Rattle.keep_syntax.specs.Grammar.{AreEntries, Place}
use Rattle.keep_meaning.specs.Fact.{Fact}
use Rattle.keep_path.specs.Path.{Part, index}
use Rattle.keep_meaning.specs.Marks.{Mention}
use Rattle.keep_meaning.specs.Meaning.{body_fact, entry_mentions, entries_mentions}
use Rattle.keep_edit_spec.specs.Changed.{Changed, within, or_else}
use Rattle.keep_edit_spec.specs.Values.{entry_prefix, entry_back, space, put_before, put_after, leads_past}
use Rattle.keep_edit_spec.specs.Values.{text_of_value}
use Rattle.keep_edit_spec.proofs.Common.Runs.{AllOf, all_join, IsDisjoint}
use Rattle.keep_edit_spec.proofs.Common.SetLaw.{EachTo, to_within, disjoint_named, more_number}
use Rattle.keep_edit_spec.proofs.Common.Moves.{moved, down, named_before}

-- An entry is put in with this number; those after it have numbers greater by one.
pub record IsPutIn (named : Option Name) (new : Value) (k : ℕ) (from to : Entries) : Type 0 where
  pub number : ℕ
  pub enough : k ≤ number
  pub before : List Mention
  pub rest : Entries
  pub was : entries_mentions k from ≡ before ++ entries_mentions number rest
  pub is : entries_mentions k to ≡ before
      ++ (entry_mentions number named (body_fact new.body) (entries_mentions 0 new.nested)
      ++ entries_mentions (number + 1) rest)
  pub stays : map (moved (down number)) before ≡ before
  pub disjoint : AllOf (IsDisjoint (index number ∷ [])) before
  pub valid : (profile : Profile) (place : Place) → AreEntries profile place from → AreEntries profile place rest

-- after another entry
put_more : (named : Option Name) (new : Value) (k : ℕ) (name : Option Name) (body : Body) (nested : Entries)
    (after : Gap) (comma : Option Gap) (rest : Entries) (after' : Gap) (comma' : Option Gap) (rest' : Entries)
    → IsPutIn named new (k + 1) rest rest'
    → IsPutIn named new k (entry name body nested after comma rest) (entry name body nested after' comma' rest')
put_more named new k name body nested after comma rest after' comma' rest' t =
    let first : List Mention = entry_mentions k name (body_fact body) (entries_mentions 0 nested) in
    let own : List Mention = entry_mentions t.number named (body_fact new.body) (entries_mentions 0 new.nested) in
    let less : k < t.number = (let e : k + 1 ≤ t.number = t.enough in omega arith) in
    record {
      number = t.number;
      enough = omega (arith, less);
      before = first ++ t.before;
      rest = t.rest;
      was = ap (λ l. first ++ l) t.was ∙ sym (append_assoc first t.before (entries_mentions t.number t.rest));
      is = ap (λ l. first ++ l) t.is
          ∙ sym (append_assoc first t.before (own ++ entries_mentions (t.number + 1) t.rest));
      stays = map-append (moved (down t.number)) first t.before
          ∙ ap (λ l. l ++ map (moved (down t.number)) t.before)
          (named_before t.number k name (body_fact body) (entries_mentions 0 nested) (omega (arith, less)))
          ∙ ap (λ l. first ++ l) t.stays;
      disjoint =
          all_join (IsDisjoint (index t.number ∷ [])) first t.before
          (disjoint_named t.number k [] name (body_fact body) (entries_mentions 0 nested) (more_number k t.number less))
          t.disjoint;
      valid = λ profile place h. t.valid profile place h.5;
    }

-- ---- before an item

abbrev pub size : Entries → ℕ
size none = 0
size (entry name body nested after comma rest) = suc (size rest)

pub record IsItemIn (new : Value) (n k : ℕ) (from to : Entries) : Type 0 where
  pub put : IsPutIn None new k from to
  pub at : put.number ≡ n

pub item_before : (new : Value) (k m : ℕ) (es : Entries) → EachTo (IsItemIn new (k + m) k es) (put_before m new es)
unfolding put_more
item_before new k m none = tt
item_before new k zero (entry name body nested after comma rest) = record {
  put = record {
    number = k;
    enough = omega arith;
    before = [];
    rest = entry name body nested after comma rest;
    was = refl;
    is = refl;
    stays = refl;
    disjoint = tt;
    valid = λ profile place h. h;
  };
  at = omega arith;
}
item_before new k (suc m) (entry name body nested after comma rest) =
    to_within (IsItemIn new (k + 1 + m) (k + 1) rest)
    (IsItemIn new (k + suc m) k (entry name body nested after comma rest)) (entry name body nested after comma)
    (entry_prefix name body nested ++ (text_of after ++ text_of (comma_leaves comma))) [] (put_before m new rest)
    (λ es t.
    record {
      put = put_more None new k name body nested after comma rest after comma es t.put;
      at = omega (arith, t.at);
    })
    (item_before new (k + 1) m rest)

pub within_none : {A B : Type 0} (outer : A → B) (left right : List ℕ) (o : Option (Changed A))
    → within outer left right o ≡ None → o ≡ None
within_none outer left right None e = refl
within_none outer left right (Some c) e = absurd cc

-- no item with that number
pub few_items : (new : Value) (m : ℕ) (es : Entries) → put_before m new es ≡ None → size es ≤ m
few_items new m none e = omega arith
few_items new zero (entry name body nested after comma rest) e = absurd cc
few_items new (suc m) (entry name body nested after comma rest) e =
    omega (
      arith,
      few_items new m rest (within_none (entry name body nested after comma)
          (entry_prefix name body nested ++ (text_of after ++ text_of (comma_leaves comma))) [] (put_before m new rest)
          e),
    )

-- ---- after the last entry that goes past a path

-- the last of these mentions are those of an entry that goes past the path
pub record IsPast (prefix : List Part) (ms : List Mention) : Type 0 where
  pub earlier : List Mention
  pub number : ℕ
  pub name : Option Name
  pub fact : Fact
  pub nested : List Mention
  pub whole : ms ≡ earlier ++ entry_mentions number name fact nested
  pub goes : leads_past prefix name ≡ true

pub record IsAfter (prefix : List Part) (named : Option Name) (new : Value) (k : ℕ) (from to : Entries) : Type 0 where
  pub put : IsPutIn named new k from to
  pub past : IsPast prefix put.before
  pub last : prefix ≡ [] → put.number ≡ k + size from

pub to_either : {A : Type 0} (P : A → Type 0) (o p : Option (Changed A)) → EachTo P o → (o ≡ None → EachTo P p)
    → EachTo P (or_else o p)
to_either P None p h g = g refl
to_either P (Some c) p h g = h

pub either_none : {A : Type 0} (o : Option A) (c : A) → or_else o (Some c) ≡ None → ⊥
either_none None c e = absurd cc
either_none (Some d) c e = absurd cc

none_after : (named : Option Name) (new : Value) (es : Entries) → put_after [] named new es ≡ None → size es ≡ 0
none_after named new none e = refl
none_after named new (entry name body nested after comma rest) e =
    absurd (either_none (within (entry name body nested after comma)
    (entry_prefix name body nested ++ (text_of after ++ text_of (comma_leaves comma))) [] (put_after [] named new rest))
    _ e)

pub entry_after : (prefix : List Part) (named : Option Name) (new : Value) (k : ℕ) (es : Entries)
    → EachTo (IsAfter prefix named new k es) (put_after prefix named new es)
unfolding put_more
entry_after prefix named new k none = tt
entry_after prefix named new k (entry name body nested after comma rest) =
    let left : List ℕ = entry_prefix name body nested ++ (text_of after ++ text_of (comma_leaves comma)) in
    to_either (IsAfter prefix named new k (entry name body nested after comma rest))
    (within (entry name body nested after comma) left [] (put_after prefix named new rest)) _
    (to_within (IsAfter prefix named new (k + 1) rest)
    (IsAfter prefix named new k (entry name body nested after comma rest)) (entry name body nested after comma) left []
    (put_after prefix named new rest)
    (λ es t. record {
      put = put_more named new k name body nested after comma rest after comma es t.put;
      past = record {
        earlier = entry_mentions k name (body_fact body) (entries_mentions 0 nested) ++ t.past.earlier;
        number = t.past.number;
        name = t.past.name;
        fact = t.past.fact;
        nested = t.past.nested;
        whole = ap (λ l. entry_mentions k name (body_fact body) (entries_mentions 0 nested) ++ l) t.past.whole
            ∙ sym (append_assoc (entry_mentions k name (body_fact body) (entries_mentions 0 nested)) t.past.earlier
            (entry_mentions t.past.number t.past.name t.past.fact t.past.nested));
        goes = t.past.goes;
      };
      last = λ e. omega (arith, t.last e);
    })
    (entry_after prefix named new (k + 1) rest))
    (λ e. by (leads_past prefix name) refl
    (within_none (entry name body nested after comma) left [] (put_after prefix named new rest) e))
  where
    by : (b : Bool) → leads_past prefix name ≡ b → put_after prefix named new rest ≡ None
        → EachTo (IsAfter prefix named new k (entry name body nested after comma rest)) (elim b [
          | false ↦ None
          | true ↦ Some (record {
            to = entry name body nested [] (Some space) (entry named new.body new.nested after comma rest);
            before = entry_prefix name body nested;
            old = [];
            new = codes ", " ++ (text_of (named_leaves named) ++ text_of_value new);
            after = entry_back after comma rest;
          })
        ])
    by false e empty = tt
    by true e empty = record {
      put = record {
        number = k + 1;
        enough = omega arith;
        before = entry_mentions k name (body_fact body) (entries_mentions 0 nested);
        rest = rest;
        was = refl;
        is = refl;
        stays = named_before (k + 1) k name (body_fact body) (entries_mentions 0 nested) (omega arith);
        disjoint =
            disjoint_named (k + 1) k [] name (body_fact body) (entries_mentions 0 nested)
            (more_number k (k + 1) (omega arith));
        valid = λ profile place h. h.5;
      };
      past = record {
        earlier = [];
        number = k;
        name = name;
        fact = body_fact body;
        nested = entries_mentions 0 nested;
        whole = refl;
        goes = e;
      };
      last = λ root.
          omega (
            arith,
            none_after named new rest (subst (λ (p : List Part). put_after p named new rest ≡ None) root empty),
          );
    }
