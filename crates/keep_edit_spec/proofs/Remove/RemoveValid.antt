-- After `remove` the tree is a document of the grammar.
--
-- Where lines are removed, a line is cleared up to its comment (`valid_clear`) or whole lines are dropped
-- (`valid_dropped`), and all that is left was valid before. The hard one is a value in brackets (`valid_removal`): the
-- gaps before and after it meet. Two gaps are joined to one; where both have white space at the seam it becomes one
-- token, or the gap would not be one of the grammar (`joined_blank`, `joined_space`). `valid_row` is an induction over
-- the entries with the cases of the definition; it also shows that what is left may follow the comma before it
-- (`IsComma`).
--
-- Theorems: `valid_remove`: what `remove` gives is a document of the grammar in the same profile.
use Rattle.std.proofs.Common.{◌≡◌, ℕ, zero, suc, ◌+◌, ◌<◌, Bool, true, false, cond, not, ◌&&◌, List, [], ◌∷◌, ◌++◌}
use Rattle.std.proofs.Common.{length, refl, sym, ap, subst, ◌∙◌, length-append, arith, Option, Some, None}
use Rattle.std.specs.Prelude.{IsTrue, codes}
use Rattle.std.specs.List.{AllByRecursion, list_any, list_all}
use Rattle.std.proofs.lemmas.Bool.{and_parts}
use Rattle.keep_types.specs.declared.leaf.Profile.{Profile}
use Rattle.keep_types.specs.declared.leaf.Profile.TheVariants.{Strict, Wide}
use Rattle.keep_types.specs.declared.leaf.Leaf.{Leaf}
use Rattle.keep_types.specs.declared.leaf.Leaf.TheVariants as leaf
use Rattle.keep_token.specs.Abnf.{is_ws}
use Rattle.keep_token.specs.Leaves.{IsLeaf, is_gap_leaf}
use Rattle.keep_syntax.specs.Tree.{Written, Gap, Name, Body, scalar, array, inline, Entries, none, entry, Line, Ended}
use Rattle.keep_syntax.specs.Tree.{Document, text_of}
use Rattle.keep_syntax.specs.Grammar.{is_ws_leaf, IsSpace, Continues, IsBlank, Place, in_scalar, in_array, in_inline}
use Rattle.keep_syntax.specs.Grammar.{IsGap, IsComma, AreEntries, IsValue, IsLine, IsEnded, IsDocument, IsComment}
use Rattle.keep_path.specs.Path.{Part, same_path}
use Rattle.keep_meaning.specs.Marks.{Reading, start}
use Rattle.keep_meaning.specs.Meaning.{step, lines}
use Rattle.keep_edit_spec.specs.Changed.{Changed, within}
use Rattle.keep_edit_spec.specs.Values.{is_comment_leaf, joined_gap, preserved_gap, past_ws, Row, take_out, taken_first}
use Rattle.keep_edit_spec.specs.Values.{taken_only, taken_last, is_last_named, entry_prefix, removal}
use Rattle.keep_syntax.specs.WholeLines.{empty_line}
use Rattle.keep_edit_spec.specs.Lines.{with_page, in_lines, in_line, drop_prefix, drop_lines, last_line, begins}
use Rattle.keep_edit_spec.specs.Lines.{body_length}
use Rattle.std.specs.Prelude.{drop}
use Rattle.keep_edit_spec.specs.Edits.{remove, change, nested, is_own, clear_line, without_lines}
use Rattle.keep_edit_spec.proofs.Common.SetLaw.{EachTo, to_within, to_or_else}
use Rattle.keep_edit_spec.proofs.Common.SetValid.{IsActValid, IsPage, valid_lines, valid_line}
use Rattle.keep_edit_spec.proofs.Remove.TakenOut.{out_when}

-- ---- gaps that meet

ws_leaf : (a : Leaf) → is_ws_leaf a ≡ true → a ≡ leaf.Ws
ws_leaf leaf.Ws e = refl
ws_leaf _ e = absurd cc

all_append : (xs ys : List ℕ) → list_all is_ws xs ≡ true → list_all is_ws ys ≡ true → list_all is_ws (xs ++ ys) ≡ true
all_append [] ys h g = g
all_append (x ∷ xs) ys h g =
    let (one, more) = and_parts (is_ws x) (list_all is_ws xs) h in rw (one, all_append xs ys more g) refl

ws_append : (xs ys : List ℕ) → IsLeaf Strict leaf.Ws xs → IsLeaf Strict leaf.Ws ys → IsLeaf Strict leaf.Ws (xs ++ ys)
ws_append xs ys h g = ((let k : 0 < length xs = h.0 in omega (arith, length-append xs ys)), all_append xs ys h.1 g.1)

leads_two : (a : Leaf) (v : Written) (h : Gap) → Continues a [] → (is_ws_leaf a && is_ws_leaf v.leaf) ≡ false
    → Continues a (v ∷ h)
leads_two leaf.Ws v h g e = ap not e
leads_two leaf.Comment v h g e = absurd g
leads_two _ v h g e = tt

leads_same : (a : Leaf) (u x : Written) (g xs : Gap) → x.leaf ≡ u.leaf → Continues a (u ∷ g) → Continues a (x ∷ xs)
leads_same leaf.Comment u x g xs e h = e ∙ h
leads_same leaf.Ws u x g xs e h = ap (λ (l : Leaf). not (is_ws_leaf l)) e ∙ h
leads_same _ u x g xs e h = tt

leads_after : (a b : Leaf) (g : Gap) → a ≡ b → Continues a g → Continues b g
leads_after a b g e h = subst (λ (x : Leaf). Continues x g) e h

pub record IsHead (u : Written) (g : Gap) : Type 0 where
  pub first : Written
  pub more : Gap
  pub is : g ≡ first ∷ more
  pub leaf : first.leaf ≡ u.leaf

head_two : (u v : Written) (h : Gap) (b : Bool) → (is_ws_leaf u.leaf && is_ws_leaf v.leaf) ≡ b
    → IsHead u (elim b [ true ↦ record { leaf = leaf.Ws; text = u.text ++ v.text } ∷ h | false ↦ u ∷ v ∷ h ])
head_two u v h true e =
    record {
      first = record { leaf = leaf.Ws; text = u.text ++ v.text };
      more = h;
      is = refl;
      leaf = sym (ws_leaf u.leaf (and_parts (is_ws_leaf u.leaf) (is_ws_leaf v.leaf) e).0);
    }
head_two u v h false e = record { first = u; more = v ∷ h; is = refl; leaf = refl }

joined_head : (u : Written) (g h : Gap) → IsHead u (joined_gap (u ∷ g) h)
joined_head u [] [] = record { first = u; more = []; is = refl; leaf = refl }
joined_head u [] (v ∷ h) = head_two u v h (is_ws_leaf u.leaf && is_ws_leaf v.leaf) refl
joined_head u (w ∷ g) h = record { first = u; more = joined_gap (w ∷ g) h; is = refl; leaf = refl }

blank_two : (w v : Written) (h : Gap) (b : Bool) → (is_ws_leaf w.leaf && is_ws_leaf v.leaf) ≡ b → IsBlank (w ∷ [])
    → IsBlank (v ∷ h)
    → IsBlank (elim b [ true ↦ record { leaf = leaf.Ws; text = w.text ++ v.text } ∷ h | false ↦ w ∷ v ∷ h ])
blank_two w v h true e hw hv =
    let (one, two) = and_parts (is_ws_leaf w.leaf) (is_ws_leaf v.leaf) e in
    let a : w.leaf ≡ leaf.Ws = ws_leaf w.leaf one in
    let b : v.leaf ≡ leaf.Ws = ws_leaf v.leaf two in (
      subst (λ (x : Leaf). IsTrue (is_gap_leaf x)) a hw.0,
      ws_append w.text v.text (subst (λ (x : Leaf). IsLeaf Strict x w.text) a hw.1)
          (subst (λ (x : Leaf). IsLeaf Strict x v.text) b hv.1),
      leads_after v.leaf leaf.Ws h b hv.2,
      hv.3,
    )
blank_two w v h false e hw hv = (hw.0, hw.1, leads_two w.leaf v h hw.2 e, hv)

joined_blank : (g h : Gap) → IsBlank g → IsBlank h → IsBlank (joined_gap g h)
joined_blank [] h hg hh = hh
joined_blank (w ∷ []) [] hg hh = hg
joined_blank (w ∷ []) (v ∷ h) hg hh = blank_two w v h (is_ws_leaf w.leaf && is_ws_leaf v.leaf) refl hg hh
joined_blank (w ∷ u ∷ g) h hg hh =
    let top = joined_head u g h in (
      hg.0,
      hg.1,
      subst (λ (x : Gap). Continues w.leaf x) (sym top.is) (leads_same w.leaf u top.first g top.more top.leaf hg.2),
      joined_blank (u ∷ g) h hg.3 hh,
    )

space_two : (w v : Written) (b : Bool) → (is_ws_leaf w.leaf && is_ws_leaf v.leaf) ≡ b → IsSpace (w ∷ [])
    → IsSpace (v ∷ [])
    → IsSpace (elim b [ true ↦ record { leaf = leaf.Ws; text = w.text ++ v.text } ∷ [] | false ↦ w ∷ v ∷ [] ])
space_two w v true e hw hv = (refl, ws_append w.text v.text hw.1 hv.1)
space_two w v false e hw hv =
    let a : is_ws_leaf w.leaf ≡ true = ap is_ws_leaf hw.0 in
    let b : is_ws_leaf v.leaf ≡ true = ap is_ws_leaf hv.0 in
    let t : (is_ws_leaf w.leaf && is_ws_leaf v.leaf) ≡ true = rw (a, b) refl in
    absurd cc

joined_space : (g h : Gap) → IsSpace g → IsSpace h → IsSpace (joined_gap g h)
joined_space [] h hg hh = hh
joined_space (w ∷ []) [] hg hh = hg
joined_space (w ∷ []) (v ∷ []) hg hh = space_two w v (is_ws_leaf w.leaf && is_ws_leaf v.leaf) refl hg hh
joined_space (w ∷ []) (v ∷ u ∷ h) hg hh = absurd hh
joined_space (w ∷ u ∷ g) h hg hh = absurd hg

gap_joined : (profile : Profile) (place : Place) (g h : Gap) → IsGap profile place g → IsGap profile place h
    → IsGap profile place (joined_gap g h)
gap_joined profile in_scalar g h hg hh = absurd hg
gap_joined profile in_array g h hg hh = joined_blank g h hg hh
gap_joined Strict in_inline g h hg hh = joined_space g h hg hh
gap_joined Wide in_inline g h hg hh = joined_blank g h hg hh

gap_none : (profile : Profile) (place : Place) (g : Gap) → IsGap profile place g → IsGap profile place []
gap_none profile in_scalar g h = absurd h
gap_none profile in_array g h = tt
gap_none Strict in_inline g h = tt
gap_none Wide in_inline g h = tt

gap_either : (profile : Profile) (place : Place) (g : Gap) (b : Bool) → IsGap profile place g
    → IsGap profile place (cond b g [])
gap_either profile place g true h = h
gap_either profile place g false h = gap_none profile place g h

gap_preserved : (profile : Profile) (place : Place) (g : Gap) → IsGap profile place g
    → IsGap profile place (preserved_gap g)
gap_preserved profile place g h = gap_either profile place g (list_any (λ w. is_comment_leaf w.leaf) g) h

blank_past : (g : Gap) → IsBlank g → IsBlank (past_ws g)
blank_past [] h = tt
blank_past (w ∷ g) h = by (is_ws_leaf w.leaf)
  where
    by : (b : Bool) → IsBlank (cond b g (w ∷ g))
    by true = h.3
    by false = h

space_past : (g : Gap) → IsSpace g → IsSpace (past_ws g)
space_past [] h = tt
space_past (w ∷ []) h = by (is_ws_leaf w.leaf)
  where
    by : (b : Bool) → IsSpace (cond b [] (w ∷ []))
    by true = tt
    by false = h
space_past (w ∷ v ∷ g) h = absurd h

gap_past : (profile : Profile) (place : Place) (g : Gap) → IsGap profile place g → IsGap profile place (past_ws g)
gap_past profile in_scalar g h = absurd h
gap_past profile in_array g h = blank_past g h
gap_past Strict in_inline g h = space_past g h
gap_past Wide in_inline g h = blank_past g h

-- ---- entries

pub record IsRow (profile : Profile) (place : Place) (path : List Part) (k : ℕ) (es : Entries) (r : Row) : Type 0 where
  pub gap : IsGap profile place r.gap
  pub entries : AreEntries profile place r.entries
  pub comma : is_last_named path k es ≡ false → IsComma profile place (Some r.gap) r.entries

first_gap : (profile : Profile) (place : Place) (gap after next_gap : Gap) → IsGap profile place gap
    → IsGap profile place after → IsGap profile place next_gap
    → IsGap profile place (joined_gap gap (joined_gap (preserved_gap after) (past_ws next_gap)))
first_gap profile place gap after next_gap hg ha hb =
    gap_joined profile place gap _ hg
    (gap_joined profile place (preserved_gap after) (past_ws next_gap) (gap_preserved profile place after ha)
    (gap_past profile place next_gap hb))

row_two : (profile : Profile) (place : Place) (path : List Part) (k : ℕ) (gap : Gap) (name : Option Name) (body : Body)
    (nested : Entries) (after next_gap : Gap)
    (name' : Option Name) (body' : Body) (nested' : Entries) (after' : Gap) (comma' : Option Gap) (rest' : Entries)
    (further : Option (Changed Row)) → IsGap profile place gap
    → AreEntries profile place (entry name body nested after (Some next_gap)
    (entry name' body' nested' after' comma' rest'))
    → (b c : Bool) → is_last_named path (k + 1) (entry name' body' nested' after' comma' rest') ≡ c
    → EachTo (IsRow profile place path (k + 1) (entry name' body' nested' after' comma' rest')) further
    → EachTo {A =
    Row} (IsRow profile place path k
    (entry name body nested after (Some next_gap) (entry name' body' nested' after' comma' rest'))) (elim b [
      | true ↦ Some (taken_first gap name body nested after next_gap (entry name' body' nested' after' comma' rest'))
      | false ↦ elim c [
        | true ↦ Some (taken_last gap name body nested after next_gap name' body' nested' after')
        | false ↦ within (λ r. record { gap = gap; entries = entry name body nested after (Some r.gap) r.entries })
            (text_of gap ++ (entry_prefix name body nested ++ (text_of after ++ codes ","))) [] further
      ]
    ])
row_two profile place path k gap name body nested after next_gap name' body' nested' after' comma' rest' further hg h
    true c e ih =
    let g = first_gap profile place gap after next_gap hg h.3 h.4 in
    record { gap = g; entries = h.5; comma = λ e. g }
row_two profile place path k gap name body nested after next_gap name' body' nested' after' None none further hg h false
    true e ih = record {
      gap = hg;
      entries = (
        h.0,
        h.1,
        h.2,
        gap_joined profile place after _ h.3
            (gap_joined profile place (preserved_gap next_gap) after' (gap_preserved profile place next_gap h.4) h.5.3),
        tt,
        tt,
      );
      comma = λ e. hg;
    }
row_two profile place path k gap name body nested after next_gap name' body' nested' after' (Some g) rest' further hg h
    false true e ih = absurd cc
row_two profile place path k gap name body nested after next_gap name' body' nested' after' None
    (entry n2 b2 i2 a2 c2 r2) further hg h false true e ih = absurd cc
row_two profile place path k gap name body nested after next_gap name' body' nested' after' comma' rest' further hg h
    false false e ih =
    to_within (IsRow profile place path (k + 1) (entry name' body' nested' after' comma' rest'))
    (IsRow profile place path k (entry name body nested after (Some next_gap)
    (entry name' body' nested' after' comma' rest')))
    (λ r. record { gap = gap; entries = entry name body nested after (Some r.gap) r.entries }) _ [] further
    (λ r t. record { gap = hg; entries = (h.0, h.1, h.2, h.3, t.comma e, t.entries); comma = λ e. hg }) ih

valid_row : (profile : Profile) (place : Place) (path : List Part) (k : ℕ) (gap : Gap) (es : Entries)
    → IsGap profile place gap → AreEntries profile place es
    → EachTo (IsRow profile place path k es) (take_out path k gap es)
valid_row profile place path k gap none hg h = tt
valid_row profile place path k gap (entry name body nested after None none) hg h =
    out_when (IsRow profile place path k (entry name body nested after None none)) (same_path (step k name) path)
    (taken_only gap name body nested after)
    (λ e. record { gap = gap_joined profile place gap after hg h.3; entries = tt; comma = λ e'. absurd cc })
valid_row profile place path k gap (entry name body nested after None (entry name' body' nested' after' comma' rest'))
    hg h = tt
valid_row profile place path k gap (entry name body nested after (Some next_gap) none) hg h =
    out_when (IsRow profile place path k (entry name body nested after (Some next_gap) none))
    (same_path (step k name) path) (taken_first gap name body nested after next_gap none)
    (λ e. let g = first_gap profile place gap after next_gap hg h.3 h.4.0 in
    record { gap = g; entries = tt; comma = λ e'. (g, h.4.1) })
valid_row profile place path k gap
    (entry name body nested after (Some next_gap) (entry name' body' nested' after' comma' rest')) hg h =
    row_two profile place path k gap name body nested after next_gap name' body' nested' after' comma' rest'
    (take_out path (k + 1) next_gap (entry name' body' nested' after' comma' rest')) hg h
    (same_path (step k name) path) (is_last_named path (k + 1) (entry name' body' nested' after' comma' rest')) refl
    (valid_row profile place path (k + 1) next_gap (entry name' body' nested' after' comma' rest') h.4 h.5)

pub valid_removal : (profile : Profile) → IsActValid profile removal
valid_removal profile path v valid = by v.body v.nested valid
  where
    by : (body : Body) (nested : Entries) → IsValue profile (record { body = body; nested = nested })
        → EachTo (IsValue profile) (removal path (record { body = body; nested = nested }))
    by (scalar w) nested valid = tt
    by (array first) nested valid =
        to_within (IsRow profile in_array path 0 nested) (IsValue profile)
        (λ r. record { body = array r.gap; nested = r.entries }) (codes "[") (codes "]")
        (take_out path 0 first nested) (λ r h. record { body = h.gap; nested = h.entries })
        (valid_row profile in_array path 0 first nested valid.body valid.nested)
    by (inline first) nested valid =
        to_within (IsRow profile in_inline path 0 nested) (IsValue profile)
        (λ r. record { body = inline r.gap; nested = r.entries }) (codes "{") (codes "}")
        (take_out path 0 first nested) (λ r h. record { body = h.gap; nested = h.entries })
        (valid_row profile in_inline path 0 first nested valid.body valid.nested)

-- ---- lines

clear_when : (P : Line → Type 0) (b : Bool) (c : Changed Line) → P c.to
    → EachTo P (elim b [ false ↦ None | true ↦ Some c ])
clear_when P true c h = h
clear_when P false c h = tt

valid_clear : (profile : Profile) (path : List Part) (r : Reading) (l : Line) → IsLine profile l
    → EachTo (IsLine profile) (clear_line path r l)
valid_clear profile path r l h = by l.comment h.comment
  where
    by : (o : Option Written) → IsComment o → EachTo (IsLine profile) (clear_line path r (record l { comment = o }))
    by None g = tt
    by (Some w) g =
        clear_when (IsLine profile) (is_own path r l.content) _
        (record { before = h.before; content = tt; after = refl; comment = g })

pub valid_empty : (profile : Profile) → IsLine profile empty_line
valid_empty profile = record { before = tt; content = tt; after = refl; comment = tt }

valid_prefix : (profile : Profile) (n : ℕ) (es : List Ended) (last : Line) → AllByRecursion (IsEnded profile) es
    → IsLine profile last → IsPage profile (drop_prefix n es last).to
valid_prefix profile zero [] last he hl = record { ended = tt; last = hl }
valid_prefix profile (suc m) [] last he hl = record { ended = tt; last = valid_empty profile }
valid_prefix profile zero (e ∷ es) last he hl = record { ended = he; last = hl }
valid_prefix profile (suc m) (e ∷ es) last he hl = valid_prefix profile m es last he.1 hl

valid_dropped : (profile : Profile) (i n : ℕ) (es : List Ended) (last : Line) → AllByRecursion (IsEnded profile) es
    → IsLine profile last → IsPage profile (drop_lines i n es last).to
valid_dropped profile i n [] last he hl = valid_prefix profile n [] last he hl
valid_dropped profile zero n (e ∷ es) last he hl = valid_prefix profile n (e ∷ es) last he hl
valid_dropped profile (suc i) n (e ∷ es) last he hl =
    let h = valid_dropped profile i n es last he.1 hl in record { ended = (he.0, h.ended); last = h.last }

without_valid : (profile : Profile) (s : Document) → IsDocument profile s → (n : ℕ → ℕ) (o : Option ℕ)
    → EachTo (IsDocument profile) (elim o [ None ↦ None | Some i ↦ without_lines s i (n i) ])
without_valid profile s h n None = tt
without_valid profile s h n (Some i) =
    let p = valid_dropped profile i (n i) s.ended s.last h.ended h.last in record { ended = p.ended; last = p.last }

pub valid_remove : (profile : Profile) (s : Document) (path : List Part) → IsDocument profile s
    → EachTo (IsDocument profile) (change s (remove path))
valid_remove profile s path h =
    to_or_else (IsDocument profile) _ _
    (to_within (IsPage profile) (IsDocument profile) (with_page s) _ []
    (in_lines (clear_line path) start s.ended s.last) (λ p k. record { ended = k.ended; last = k.last })
    (valid_lines profile (clear_line path) (λ r l. valid_clear profile path r l) start s.ended s.last h.ended h.last))
    (to_or_else (IsDocument profile) _ _
    (without_valid profile s h (λ i. 1) (last_line (λ r l. is_own path r l.content) start (lines s)))
    (to_or_else (IsDocument profile) _ _
    (without_valid profile s h (λ i. suc (body_length (drop (suc i) (lines s))))
    (last_line (begins path) start (lines s)))
    (to_within (IsPage profile) (IsDocument profile) (with_page s) _ []
    (in_lines (in_line removal path) start s.ended s.last) (λ p k. record { ended = k.ended; last = k.last })
    (valid_lines profile (in_line removal path) (λ r l. valid_line profile removal (valid_removal profile) path r l)
    start s.ended s.last h.ended h.last))))
