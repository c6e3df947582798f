-- A keyval put into the braces of its holder comes after the last keyval there by the numbers of values, or directly
-- after the opening brace if there is none.
--
-- Theorems: `into_empty`: there is none; `after_last`: there is one.
use Rattle.std.proofs.Common.{◌≡◌, ℕ, suc, ◌+◌, List, [], ◌∷◌, ◌++◌, length, map, drop, slice_get, refl, sym, ap, subst}
use Rattle.std.proofs.Common.{◌∙◌, append_assoc, length-append, arith, Option, Some, None, inl, inr, drop_at}
use Rattle.keep_types.specs.declared.leaf.Profile.{Profile}
use Rattle.keep_types.specs.declared.syntax.ValueInfo.{ValueInfo}
use Rattle.keep_syntax.specs.Tree.{Name, Entries, none, entry, Value, Document, comma_leaves, text_of}
use Rattle.keep_syntax.specs.Numbered as syntax
use Rattle.keep_syntax.specs.Numbered.{entries_values}
use Rattle.keep_path.specs.Path.{Part, key}
use Rattle.keep_meaning.specs.Counts.{is_value, numbered_in}
use Rattle.keep_meaning.specs.Nodes.{numbered_at, last_number, value_number}
use Rattle.keep_edit_spec.specs.Look.{keys_in}
use Rattle.keep_edit_spec.specs.Changed.{within}
use Rattle.keep_edit_spec.specs.Values.{put_after, put_named, entry_prefix}
use Rattle.keep_edit_spec.specs.Edits.{insert, name_with}
use Rattle.keep_edit_spec.specs.Insertion.{in_empty, last_keyval}
use Rattle.keep_edit_spec.proofs.Common.FoundValue.{BeginNoDeeper}
use Rattle.keep_edit_spec.proofs.Values.ValuePlace.{get_here}
use Rattle.keep_edit_spec.proofs.Insert.BracesPlace.{is_inline}
use Rattle.keep_types.proofs.Shared.{one_of_two}
use Rattle.keep_edit_spec.proofs.Insert.EntryPlaces.{own_of}
use Rattle.keep_edit_spec.proofs.Insert.EntryThere.{infos_before, here_there}
use Rattle.keep_edit_spec.proofs.Insert.LineBefore.{IsLowPlace}
use Rattle.keep_edit_spec.proofs.Insert.LastKeyval.{last_none, entry_last}
use Rattle.keep_edit_spec.proofs.Insert.BracePlaces.{IsPutAfter, IsKeyvalFound, begin, RowOutcome, Placed}
use Rattle.keep_edit_spec.proofs.Insert.BracePlaces.{keyval_placed}
use Rattle.keep_edit_spec.proofs.Insert.PutIn.{either_none}

abbrev stated_number : List Part → Document → Option ℕ
stated_number path s = last_number is_value value_number (numbered_at path (numbered_in s))

-- after the last entry there is none
rest_none : (named : Option Name) (new : Value) (es : Entries) → put_after [] named new es ≡ None → es ≡ none
rest_none named new none e = refl
rest_none named new (entry name body nested after comma more) e =
    absurd (either_none (within (entry name body nested after comma)
    (entry_prefix name body nested ++ (text_of after ++ text_of (comma_leaves comma))) [] (put_after [] named new more))
    _ e)

-- ---- in the braces of the holder itself

module _ (profile : Profile) (s : Document) (path at : List Part) (new : Value) (k : List ℕ) (ks : List (List ℕ))
    (h : IsKeyvalFound profile s path at [] new k ks) (v : ℕ) (own : ValueInfo)
    (number : stated_number at s ≡ Some v) (here : slice_get (syntax.values s) v ≡ Some own) where
  is_number : v ≡ length h.there.found.prefix
  is_number = one_of_two (stated_number at s) v (length h.there.found.prefix) number h.there.number

  is_own : own ≡ h.there.found.own
  is_own =
      one_of_two (slice_get (syntax.values s) v) own h.there.found.own here
      (ap (λ (l : List ValueInfo). slice_get l v) h.there.found.here
      ∙ get_here h.there.found.prefix h.there.found.own h.there.found.after v is_number)

  abbrev inner : List ValueInfo
  inner = entries_values (begin profile s path at [] new k ks h) h.there.found.value.nested

  after_is : drop (suc v) (syntax.values s) ≡ inner ++ h.there.found.others
  after_is =
      ap (drop (suc v)) (h.there.found.here
      ∙ ap (λ (l : List ValueInfo). h.there.found.prefix ++ h.there.found.own ∷ l) h.there.found.within_values
      ∙ sym (append_assoc h.there.found.prefix (h.there.found.own ∷ []) (inner ++ h.there.found.others)))
      ∙ drop_at (h.there.found.prefix ++ h.there.found.own ∷ []) (inner ++ h.there.found.others) (suc v)
      (omega (arith, is_number, length-append h.there.found.prefix (h.there.found.own ∷ [])))

  depth_is : own.depth ≡ h.there.found.begin.depth
  depth_is = ap (λ (i : ValueInfo). i.depth) (is_own ∙ h.there.found.stated)

  ends : BeginNoDeeper own.depth h.there.found.others
  ends = subst (λ (i : ValueInfo). BeginNoDeeper i.depth h.there.found.others) (sym is_own) h.there.found.ends

  abbrev last : Option ℕ
  last = last_keyval (suc v) own.depth (drop (suc v) (syntax.values s))

  pub into_empty : last ≡ None → IsLowPlace s (insert path new) (in_empty own (keys_in (map key (k ∷ ks))) new)
  into_empty e = by (keyval_placed profile s path at [] new k ks h)
    where
      by : Placed profile s path at [] new k ks h
          → IsLowPlace s (insert path new) (in_empty own (keys_in (map key (k ∷ ks))) new)
      by (inl (empty, is)) =
          subst (λ (i : ValueInfo). IsLowPlace s (insert path new) (in_empty i (keys_in (map key (k ∷ ks))) new))
          (sym is_own) is
      by (inr b) =
          let found =
          entry_last (RowOutcome profile s path at [] new k ks h) 0 (begin profile s path at [] new k ks h)
          h.there.found.value.nested b.entry h.there.found.others (suc v) own.depth
          (rest_none _ new b.entry.rest b.last) (ap suc (sym depth_is)) ends in
          let no : None ≡ Some _ = sym e ∙ ap (last_keyval (suc v) own.depth) after_is ∙ found in
          absurd cc

  pub after_last : (w : ℕ) → last ≡ Some w → IsPutAfter path s new (keys_in (map key (k ∷ ks))) w
  after_last w e = by (keyval_placed profile s path at [] new k ks h)
    where
      by : Placed profile s path at [] new k ks h → IsPutAfter path s new (keys_in (map key (k ∷ ks))) w
      by (inl (empty, is)) =
          let none_there : last ≡ None =
          ap (last_keyval (suc v) own.depth)
          (after_is
          ∙ ap (λ (es : Entries). entries_values (begin profile s path at [] new k ks h) es ++ h.there.found.others)
          empty)
          ∙ last_none (suc v) own.depth [] h.there.found.others tt ends in
          let no : None ≡ Some w = sym none_there ∙ e in absurd cc
      by (inr b) =
          let z = b.entry in
          let found =
          entry_last (RowOutcome profile s path at [] new k ks h) 0 (begin profile s path at [] new k ks h)
          h.there.found.value.nested z h.there.found.others (suc v) own.depth
          (rest_none _ new z.rest b.last) (ap suc (sym depth_is)) ends in
          let infos : List ValueInfo =
          infos_before profile is_inline (put_named name_with (length (map key (k ∷ ks))) new) (map key (k ∷ ks)) at s
          h.changed h.there (RowOutcome profile s path at [] new k ks h) z in
          let w_is : suc v + length z.prefix ≡ w =
          one_of_two last _ w (ap (last_keyval (suc v) own.depth) after_is ∙ found) e in
          let same : w ≡ length infos =
          omega (arith, w_is, is_number, length-append h.there.found.prefix (h.there.found.own ∷ z.prefix)) in
          record {
            info = own_of (RowOutcome profile s path at [] new k ks h) 0 (begin profile s path at [] new k ks h)
                h.there.found.value.nested z;
            here = ap (slice_get (syntax.values s)) same
                ∙ here_there profile is_inline (put_named name_with (length (map key (k ∷ ks))) new)
                (map key (k ∷ ks)) at s h.changed h.there (RowOutcome profile s path at [] new k ks h) z;
            placed = b.is;
          }
