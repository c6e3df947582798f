-- Each change is a cut of the text: what stays before and after is the same in the old text and the new.
--
-- A change has the text before it, the old text, the new text and the text after it. One lemma carries all: if a part
-- of a whole changes so, the whole does, with the texts beside the part added (`within-is`); and of two choices either
-- may be made (`or_else-is`). The rest follows the definitions: a search into entries by induction over them
-- (`in_entries-is`), then each act: `set` (`replacement-is`), `insert` (`put_item-is`, `put_named-is`), `remove`
-- (`removal-is`) and `rename` (`renaming-is`). Only `remove` joins gaps, so there the old text has to be put together
-- anew (`joined_gap-text`, `past_ws-text`).
--
-- Theorems: `in_value-is`, and for each act that it is such a cut: `replacement-is`, `put_item-is`, `put_named-is`,
-- `removal-is`, `renaming-is`.
use Rattle.std.proofs.Common.{◌≡◌, ℕ, zero, suc, ◌+◌, ◌-◌, Bool, true, false, cond, ◌&&◌, List, [], ◌∷◌, ◌++◌, length}
use Rattle.std.proofs.Common.{take, drop, refl, sym, ap, ◌∙◌, append_assoc, length-append, Option, Some, None}
use Rattle.std.specs.Prelude.{⊤, codes}
use Rattle.std.specs.List.{flat_map}
use Rattle.std.proofs.lemmas.Grind.{flat_map-append}
use Rattle.std.proofs.lemmas.List.{append-nil}
use Rattle.std.proofs.Math.Seq.{take-append_seam, drop-append_seam}
use Rattle.keep_types.specs.declared.leaf.Leaf.TheVariants as leaf
use Rattle.keep_syntax.specs.Tree.{Written, Gap, Further, Key, Name, further_leaves, key_leaves, name_leaves, Body}
use Rattle.keep_syntax.specs.Tree.{scalar, array, inline, Entries, none, entry, Value, named_leaves, opening, closing}
use Rattle.keep_syntax.specs.Tree.{comma_leaves, text_of}
use Rattle.keep_syntax.specs.Grammar.{is_ws_leaf}
use Rattle.keep_path.specs.Path.{Part, key, index, same_path}
use Rattle.keep_meaning.specs.Meaning.{step}
use Rattle.keep_edit_spec.specs.Look.{strip, keys_in}
use Rattle.keep_edit_spec.specs.Changed.{Changed, IsChangeOf, within, or_else, place_of, put}
use Rattle.keep_edit_spec.specs.Values.{Act, entries_text, entry_prefix, entry_back, text_of_value, in_entries}
use Rattle.keep_edit_spec.specs.Values.{in_value, replacement, put_before, put_after, bracketed_change, put_item}
use Rattle.keep_edit_spec.specs.Values.{put_named, space, leads_past, joined_gap, prefix_ws, past_ws, Row, row_text}
use Rattle.keep_edit_spec.specs.Values.{taken_first, taken_only, taken_last, take_out, removal, is_last_named}
use Rattle.keep_edit_spec.specs.Values.{rename_further, rename_part, rename_name, rename_entry, renaming}

-- a change, where there is one
abbrev pub EachIs : {A : Type 0} → (A → List ℕ) → A → Option (Changed A) → Type 0
EachIs text from None = ⊤
EachIs text from (Some c) = IsChangeOf text from c

pub put-place_of : {A : Type 0} (text : A → List ℕ) (from : A) (c : Changed A) → IsChangeOf text from c
    → text c.to ≡ put (text from) (place_of c)
put-place_of text from c h =
    let cut : c.before ++ (c.old ++ c.after) ≡ (c.before ++ c.old) ++ c.after =
    sym (append_assoc c.before c.old c.after) in
    let long : length c.before + length c.old ≡ length (c.before ++ c.old) = sym (length-append c.before c.old) in
    let prefix : take (length c.before) (text from) ≡ c.before =
    ap (take (length c.before)) h.was ∙ take-append_seam c.before (c.old ++ c.after) in
    let back : drop (length c.before + length c.old) (text from) ≡ c.after =
    ap (drop (length c.before + length c.old)) (h.was ∙ cut) ∙ ap (λ n. drop n ((c.before ++ c.old) ++ c.after)) long
    ∙ drop-append_seam (c.before ++ c.old) c.after in
    h.is ∙ sym (ap (λ b. b ++ (c.new ++ drop (length c.before + length c.old) (text from))) prefix
    ∙ ap (λ b. c.before ++ (c.new ++ b)) back)

wrap : (left right before mid after text : List ℕ) → text ≡ before ++ (mid ++ after)
    → left ++ (text ++ right) ≡ (left ++ before) ++ (mid ++ (after ++ right))
wrap left right before mid after text h = rw h (simp append_assoc refl)

pub within-is : {A B : Type 0} (f : A → List ℕ) (g : B → List ℕ) (outer : A → B) (left right : List ℕ) (x : A)
    (o : Option (Changed A))
    → ((y : A) → g (outer y) ≡ left ++ (f y ++ right)) → EachIs f x o → EachIs g (outer x) (within outer left right o)
within-is f g outer left right x None e h = h
within-is f g outer left right x (Some c) e h = record {
  was = e x ∙ wrap left right c.before c.old c.after (f x) h.was;
  is = e c.to ∙ wrap left right c.before c.new c.after (f c.to) h.is;
}

pub or_else-is : {A : Type 0} (f : A → List ℕ) (x : A) (o p : Option (Changed A)) → EachIs f x o → EachIs f x p
    → EachIs f x (or_else o p)
or_else-is f x None p h g = g
or_else-is f x (Some c) p h g = h

abbrev written : Written → List ℕ
written w = w.text

pub text_of-append : (a b : List Written) → text_of (a ++ b) ≡ text_of a ++ text_of b
text_of-append a b = flat_map-append written a b

-- the text of an entry and those after it
pub entry-text : (name : Option Name) (body : Body) (nested : Entries) (after : Gap) (comma : Option Gap)
    (rest : Entries)
    → entries_text (entry name body nested after comma rest) ≡ entry_prefix name body nested
    ++ entry_back after comma rest
entry-text name body nested after comma rest = simp (text_of-append, append_assoc) refl

-- ---- inside values

abbrev pub IsAct : Act → Type 0
IsAct act = (path : List Part) (v : Value) → EachIs text_of_value v (act path v)

pub further-entry : (name : Option Name) (body : Body) (nested : Entries) (after : Gap) (comma : Option Gap)
    (rest : Entries)
    → entries_text (entry name body nested after comma rest)
    ≡ (entry_prefix name body nested ++ (text_of after ++ text_of (comma_leaves comma))) ++ (entries_text rest ++ [])
further-entry name body nested after comma rest = simp (text_of-append, append_assoc, append-nil) refl

pub own-entry : (name : Option Name) (v : Value) (after : Gap) (comma : Option Gap) (rest : Entries)
    → entries_text (entry name v.body v.nested after comma rest) ≡ text_of (named_leaves name)
    ++ (text_of_value v ++ entry_back after comma rest)
own-entry name v after comma rest = simp (text_of-append, append_assoc) refl

pub in-brackets : (body : Body) (es : Entries)
    → text_of_value (record { body = body; nested = es }) ≡ text_of (opening body)
    ++ (entries_text es ++ text_of (closing body))
in-brackets body es = simp text_of-append refl

in_entries-by : (act : Act) (path : List Part) (n : ℕ) (name : Option Name) (body : Body) (nested : Entries)
    (after : Gap) (comma : Option Gap) (rest : Entries)
    → IsAct act → EachIs entries_text rest (in_entries act path (n + 1) rest)
    → ((more : List Part) → EachIs entries_text nested (in_entries act more 0 nested))
    → (o : Option (List Part)) → EachIs entries_text (entry name body nested after comma rest) (elim o [
      | None ↦
          within (entry name body nested after comma)
          (entry_prefix name body nested ++ (text_of after ++ text_of (comma_leaves comma))) []
          (in_entries act path (n + 1) rest)
      | Some more ↦
          within (λ v. entry name v.body v.nested after comma rest) (text_of (named_leaves name))
          (entry_back after comma rest)
          (or_else (within (λ es. record { body = body; nested = es }) (text_of (opening body)) (text_of (closing body))
          (in_entries act more 0 nested))
          (act more (record { body = body; nested = nested })))
    ])
in_entries-by act path n name body nested after comma rest h further deeper None =
    within-is entries_text entries_text (entry name body nested after comma)
    (entry_prefix name body nested ++ (text_of after ++ text_of (comma_leaves comma))) [] rest
    (in_entries act path (n + 1) rest)
    (λ y. further-entry name body nested after comma y) further
in_entries-by act path n name body nested after comma rest h further deeper (Some more) =
    within-is text_of_value entries_text (λ v. entry name v.body v.nested after comma rest)
    (text_of (named_leaves name)) (entry_back after comma rest) (record { body = body; nested = nested })
    (or_else (within (λ es. record { body = body; nested = es }) (text_of (opening body)) (text_of (closing body))
    (in_entries act more 0 nested))
    (act more (record { body = body; nested = nested })))
    (λ y. own-entry name y after comma rest)
    (or_else-is text_of_value (record { body = body; nested = nested })
    (within (λ es. record { body = body; nested = es }) (text_of (opening body)) (text_of (closing body))
    (in_entries act more 0 nested)) (act more (record { body = body; nested = nested }))
    (within-is entries_text text_of_value (λ es. record { body = body; nested = es }) (text_of (opening body))
    (text_of (closing body)) nested (in_entries act more 0 nested)
    (λ y. in-brackets body y) (deeper more))
    (h more (record { body = body; nested = nested })))

pub in_entries-is : (act : Act) → IsAct act → (path : List Part) (n : ℕ) (es : Entries)
    → EachIs entries_text es (in_entries act path n es)
in_entries-is act h path n none = tt
in_entries-is act h path n (entry name body nested after comma rest) =
    in_entries-by act path n name body nested after comma rest h (in_entries-is act h path (n + 1) rest)
    (λ more. in_entries-is act h more 0 nested) (strip (step n name) path)

pub in_value-is : (act : Act) → IsAct act → IsAct (in_value act)
in_value-is act h path v =
    or_else-is text_of_value v _ _
    (within-is entries_text text_of_value (λ es. record v { nested = es }) _ _ v.nested (in_entries act path 0 v.nested)
    (λ y. in-brackets v.body y) (in_entries-is act h path 0 v.nested))
    (h path v)

pub replacement-is : (new : Value) → IsAct (replacement new)
replacement-is new [] v = record { was = sym (append-nil _); is = sym (append-nil _) }
replacement-is new (p ∷ ps) v = tt

-- ---- insert

pub put_before-is : (n : ℕ) (new : Value) (es : Entries) → EachIs entries_text es (put_before n new es)
put_before-is n new none = tt
put_before-is zero new (entry name body nested after comma rest) = record {
  was = refl;
  is = simp (text_of-append, append_assoc) refl;
}
put_before-is (suc m) new (entry name body nested after comma rest) =
    within-is entries_text entries_text (entry name body nested after comma)
    (entry_prefix name body nested ++ (text_of after ++ text_of (comma_leaves comma))) [] rest (put_before m new rest)
    (λ y. further-entry name body nested after comma y) (put_before-is m new rest)

goes-is : (named : Option Name) (new : Value) (name : Option Name) (body : Body) (nested : Entries) (after : Gap)
    (comma : Option Gap) (rest : Entries)
    → (b : Bool) → EachIs entries_text (entry name body nested after comma rest) (elim b [
      | false ↦ None
      | true ↦ Some (record {
        to = entry name body nested [] (Some space) (entry named new.body new.nested after comma rest);
        before = entry_prefix name body nested;
        old = [];
        new = codes ", " ++ (text_of (named_leaves named) ++ text_of_value new);
        after = entry_back after comma rest;
      })
    ])
goes-is named new name body nested after comma rest false = tt
goes-is named new name body nested after comma rest true = record {
  was = entry-text name body nested after comma rest;
  is = simp (text_of-append, append_assoc) refl;
}

pub put_after-is : (prefix : List Part) (named : Option Name) (new : Value) (es : Entries)
    → EachIs entries_text es (put_after prefix named new es)
put_after-is prefix named new none = tt
put_after-is prefix named new (entry name body nested after comma rest) =
    or_else-is entries_text (entry name body nested after comma rest) _ _
    (within-is entries_text entries_text (entry name body nested after comma)
    (entry_prefix name body nested ++ (text_of after ++ text_of (comma_leaves comma))) [] rest
    (put_after prefix named new rest)
    (λ y. further-entry name body nested after comma y) (put_after-is prefix named new rest))
    (goes-is named new name body nested after comma rest (leads_past prefix name))

pub bracketed_change-is : (named : Option Name) (new : Value) (more : Entries → Option (Changed Entries))
    → ((es : Entries) → EachIs entries_text es (more es))
    → (body : Body) (nested : Entries)
    → EachIs text_of_value (record { body = body; nested = nested }) (bracketed_change named new more body nested)
bracketed_change-is named new more h (scalar w) nested = tt
bracketed_change-is named new more h (array first) none =
    record { was = simp (text_of-append, append-nil) refl; is = simp (text_of-append, append_assoc, append-nil) refl }
bracketed_change-is named new more h (inline first) none =
    record { was = simp (text_of-append, append-nil) refl; is = simp (text_of-append, append_assoc, append-nil) refl }
bracketed_change-is named new more h (array first) (entry name body nested after comma rest) =
    within-is entries_text text_of_value (λ es. record { body = array first; nested = es })
    (codes "[" ++ text_of first) (codes "]") (entry name body nested after comma rest)
    (more (entry name body nested after comma rest))
    (λ y. simp (text_of-append, append_assoc) refl) (h (entry name body nested after comma rest))
bracketed_change-is named new more h (inline first) (entry name body nested after comma rest) =
    within-is entries_text text_of_value (λ es. record { body = inline first; nested = es })
    (codes "{" ++ text_of first) (codes "}") (entry name body nested after comma rest)
    (more (entry name body nested after comma rest))
    (λ y. simp (text_of-append, append_assoc) refl) (h (entry name body nested after comma rest))

pub put_item-is : (new : Value) → IsAct (put_item new)
put_item-is new [] v = tt
put_item-is new (key text ∷ parts) v = tt
put_item-is new (index n ∷ parts) v =
    bracketed_change-is None new (λ es. or_else (put_before n new es) (put_after [] None new es))
    (λ es. or_else-is entries_text es (put_before n new es) (put_after [] None new es) (put_before-is n new es)
    (put_after-is [] None new es)) v.body v.nested

pub put_named-is : (name : List (List ℕ) → Name) (rest : ℕ) (new : Value) → IsAct (put_named name rest new)
put_named-is name rest new path v =
    bracketed_change-is (Some (name (keys_in path))) new
    (put_after (take (length path - rest) path) (Some (name (keys_in path))) new)
    (λ es. put_after-is (take (length path - rest) path) (Some (name (keys_in path))) new es) v.body v.nested

-- ---- remove

joined_two : (w v : Written) (h : Gap) → (b : Bool) → (is_ws_leaf w.leaf && is_ws_leaf v.leaf) ≡ b
    → text_of (elim b [ true ↦ record { leaf = leaf.Ws; text = w.text ++ v.text } ∷ h | false ↦ w ∷ v ∷ h ]) ≡ w.text
    ++ (v.text ++ text_of h)
joined_two w v h true e = append_assoc w.text v.text (text_of h)
joined_two w v h false e = refl

pub joined_gap-text : (g h : Gap) → text_of (joined_gap g h) ≡ text_of g ++ text_of h
joined_gap-text [] h = refl
joined_gap-text (w ∷ []) [] = sym (append-nil _)
joined_gap-text (w ∷ []) (v ∷ h) =
    joined_two w v h (is_ws_leaf w.leaf && is_ws_leaf v.leaf) refl
    ∙ ap (λ t. t ++ (v.text ++ text_of h)) (sym (append-nil w.text))
joined_gap-text (w ∷ u ∷ g) h =
    ap (λ t. w.text ++ t) (joined_gap-text (u ∷ g) h) ∙ sym (append_assoc w.text (text_of (u ∷ g)) (text_of h))

ws_parts : (w : Written) (g : Gap) (b : Bool)
    → text_of (w ∷ g) ≡ text_of (cond b (w ∷ []) []) ++ text_of (cond b g (w ∷ g))
ws_parts w g true = ap (λ t. t ++ text_of g) (sym (append-nil w.text))
ws_parts w g false = refl

pub past_ws-text : (g : Gap) → text_of g ≡ text_of (prefix_ws g) ++ text_of (past_ws g)
past_ws-text [] = refl
past_ws-text (w ∷ g) = ws_parts w g (is_ws_leaf w.leaf)

pub taken_first-is : (gap : Gap) (name : Option Name) (body : Body) (nested : Entries) (after next_gap : Gap)
    (rest : Entries)
    → IsChangeOf row_text (record { gap = gap; entries = entry name body nested after (Some next_gap) rest })
    (taken_first gap name body nested after next_gap rest)
taken_first-is gap name body nested after next_gap rest = record {
  was = ap (λ t. text_of gap ++ t)
      (entry-text name body nested after (Some next_gap) rest
      ∙ ap (λ t. entry_prefix name body nested ++ (text_of after ++ (codes "," ++ t ++ entries_text rest)))
      (past_ws-text next_gap))
      ∙ simp (append_assoc) refl;
  is = simp (joined_gap-text, append_assoc) refl;
}

pub taken_only-is : (gap : Gap) (name : Option Name) (body : Body) (nested : Entries) (after : Gap)
    → IsChangeOf row_text (record { gap = gap; entries = entry name body nested after None none })
    (taken_only gap name body nested after)
taken_only-is gap name body nested after = record {
  was = simp (text_of-append, append_assoc, append-nil) refl;
  is = simp (joined_gap-text, append_assoc, append-nil) refl;
}

pub taken_last-is : (gap : Gap) (name : Option Name) (body : Body) (nested : Entries) (after next_gap : Gap)
    (name' : Option Name) (body' : Body) (nested' : Entries) (after' : Gap)
    → IsChangeOf row_text (record {
      gap = gap;
      entries = entry name body nested after (Some next_gap) (entry name' body' nested' after' None none);
    })
    (taken_last gap name body nested after next_gap name' body' nested' after')
taken_last-is gap name body nested after next_gap name' body' nested' after' = record {
  was = ap (λ t. text_of gap ++ t)
      (entry-text name body nested after (Some next_gap) (entry name' body' nested' after' None none)
      ∙ ap (λ t. entry_prefix name body nested ++ (text_of after ++ (codes "," ++ text_of next_gap ++ t)))
      (entry-text name' body' nested' after' None none))
      ∙ simp (append_assoc, append-nil) refl;
  is = simp (text_of-append, joined_gap-text, append_assoc, append-nil) refl;
}

when : {A : Type 0} (f : A → List ℕ) (x : A) (b : Bool) (c : Changed A) → IsChangeOf f x c
    → EachIs f x (elim b [ true ↦ Some c | false ↦ None ])
when f x true c h = h
when f x false c h = tt

row-text : (gap : Gap) (name : Option Name) (body : Body) (nested : Entries) (after next_gap : Gap) (y : Row)
    → row_text (record { gap = gap; entries = entry name body nested after (Some y.gap) y.entries })
    ≡ (text_of gap ++ (entry_prefix name body nested ++ (text_of after ++ codes ","))) ++ (row_text y ++ [])
row-text gap name body nested after next_gap y =
    ap (λ t. text_of gap ++ t) (entry-text name body nested after (Some y.gap) y.entries)
    ∙ simp (append_assoc, append-nil) refl

-- the one of two entries is named
take_out-two : (path : List Part) (n : ℕ) (gap : Gap) (name : Option Name) (body : Body) (nested : Entries)
    (after next_gap : Gap)
    (name' : Option Name) (body' : Body) (nested' : Entries) (after' : Gap) (comma' : Option Gap) (rest' : Entries)
    (further : Option (Changed Row)) (b c : Bool)
    → is_last_named path (n + 1) (entry name' body' nested' after' comma' rest') ≡ c
    → EachIs row_text (record { gap = next_gap; entries = entry name' body' nested' after' comma' rest' }) further
    → EachIs row_text (record {
      gap = gap;
      entries = entry name body nested after (Some next_gap) (entry name' body' nested' after' comma' rest');
    }) (elim b [
      | true ↦ Some (taken_first gap name body nested after next_gap (entry name' body' nested' after' comma' rest'))
      | false ↦ elim c [
        | true ↦ Some (taken_last gap name body nested after next_gap name' body' nested' after')
        | false ↦ within (λ r. record { gap = gap; entries = entry name body nested after (Some r.gap) r.entries })
            (text_of gap ++ (entry_prefix name body nested ++ (text_of after ++ codes ","))) [] further
      ]
    ])
take_out-two path n gap name body nested after next_gap name' body' nested' after' comma' rest' further true c e h =
    taken_first-is gap name body nested after next_gap (entry name' body' nested' after' comma' rest')
take_out-two path n gap name body nested after next_gap name' body' nested' after' None none further false true e h =
    taken_last-is gap name body nested after next_gap name' body' nested' after'
take_out-two path n gap name body nested after next_gap name' body' nested' after' (Some g) rest' further false true e
    h = absurd cc
take_out-two path n gap name body nested after next_gap name' body' nested' after' None (entry n2 b2 i2 a2 c2 r2)
    further false true e h = absurd cc
take_out-two path n gap name body nested after next_gap name' body' nested' after' comma' rest' further false false e
    h =
    within-is row_text row_text (λ r.
    record { gap = gap; entries = entry name body nested after (Some r.gap) r.entries })
    (text_of gap ++ (entry_prefix name body nested ++ (text_of after ++ codes ","))) []
    (record { gap = next_gap; entries = entry name' body' nested' after' comma' rest' }) further
    (λ y. row-text gap name body nested after next_gap y) h

pub take_out-is : (path : List Part) (n : ℕ) (gap : Gap) (es : Entries)
    → EachIs row_text (record { gap = gap; entries = es }) (take_out path n gap es)
take_out-is path n gap none = tt
take_out-is path n gap (entry name body nested after None none) =
    when row_text _ (same_path (step n name) path) (taken_only gap name body nested after)
    (taken_only-is gap name body nested after)
take_out-is path n gap (entry name body nested after None (entry name' body' nested' after' comma' rest')) = tt
take_out-is path n gap (entry name body nested after (Some next_gap) none) =
    when row_text _ (same_path (step n name) path) (taken_first gap name body nested after next_gap none)
    (taken_first-is gap name body nested after next_gap none)
take_out-is path n gap (entry name body nested after (Some next_gap) (entry name' body' nested' after' comma' rest')) =
    take_out-two path n gap name body nested after next_gap name' body' nested' after' comma' rest'
    (take_out path (n + 1) next_gap (entry name' body' nested' after' comma' rest')) (same_path (step n name) path)
    (is_last_named path (n + 1) (entry name' body' nested' after' comma' rest')) refl
    (take_out-is path (n + 1) next_gap (entry name' body' nested' after' comma' rest'))

pub removal-is : IsAct removal
removal-is path v = by v.body v.nested
  where
    by : (body : Body) (nested : Entries)
        → EachIs text_of_value (record { body = body; nested = nested })
        (removal path (record { body = body; nested = nested }))
    by (scalar w) nested = tt
    by (array first) nested =
        within-is row_text text_of_value (λ r. record { body = array r.gap; nested = r.entries })
        (codes "[") (codes "]") (record { gap = first; entries = nested })
        (take_out path 0 first nested) (λ y. simp (text_of-append, append_assoc) refl) (take_out-is path 0 first nested)
    by (inline first) nested =
        within-is row_text text_of_value (λ r. record { body = inline r.gap; nested = r.entries })
        (codes "{") (codes "}") (record { gap = first; entries = nested })
        (take_out path 0 first nested) (λ y. simp (text_of-append, append_assoc) refl) (take_out-is path 0 first nested)

-- ---- rename

abbrev pub furthers_text : List Further → List ℕ
furthers_text fs = text_of (flat_map further_leaves fs)

abbrev pub key_text_of : Key → List ℕ
key_text_of k = text_of (key_leaves k)

abbrev pub name_text_of : Name → List ℕ
name_text_of n = text_of (name_leaves n)

furthers-cons : (f : Further) (fs : List Further)
    → furthers_text (f ∷ fs) ≡ text_of (further_leaves f) ++ (furthers_text fs ++ [])
furthers-cons f fs =
    text_of-append (further_leaves f) (flat_map further_leaves fs)
    ∙ ap (λ t. text_of (further_leaves f) ++ t) (sym (append-nil (furthers_text fs)))

further-cut : (f : Further) (fs : List Further)
    → furthers_text (f ∷ fs) ≡ (text_of f.before ++ (codes "." ++ text_of f.after)) ++ (f.part.text ++ furthers_text fs)
further-cut f fs = simp (text_of-append, append_assoc, append-nil) refl

pub rename_further-is : (new : Written) (n : ℕ) (fs : List Further) → EachIs furthers_text fs (rename_further new n fs)
rename_further-is new n [] = tt
rename_further-is new zero (f ∷ fs) = record { was = further-cut f fs; is = further-cut (record f { part = new }) fs }
rename_further-is new (suc m) (f ∷ fs) =
    within-is furthers_text furthers_text (λ gs. f ∷ gs) (text_of (further_leaves f)) [] fs (rename_further new m fs)
    (λ y. furthers-cons f y) (rename_further-is new m fs)

pub rename_part-is : (new : Written) (n : ℕ) (k : Key) → EachIs key_text_of k (rename_part new n k)
rename_part-is new zero k = record { was = refl; is = refl }
rename_part-is new (suc m) k =
    within-is furthers_text key_text_of (λ fs. record k { more = fs }) k.first.text [] k.more
    (rename_further new m k.more)
    (λ y. ap (λ t. k.first.text ++ t) (sym (append-nil (furthers_text y)))) (rename_further-is new m k.more)

pub rename_name-is : (new : Written) (n : ℕ) (name : Name) → EachIs name_text_of name (rename_name new n name)
rename_name-is new n name =
    within-is key_text_of name_text_of (λ k. record name { key = k }) []
    (text_of name.before ++ (codes "=" ++ text_of name.after)) name.key (rename_part new n name.key)
    (λ y. simp (text_of-append, append_assoc) refl) (rename_part-is new n name.key)

rename_entry-by : (new : Written) (path : List Part) (name : Name) (body : Body) (nested : Entries) (after : Gap)
    (comma : Option Gap) (rest : Entries)
    → EachIs entries_text rest (rename_entry new path rest) → (o : Option (List Part))
    → EachIs entries_text (entry (Some name) body nested after comma rest) (elim o [
      | Some more ↦
          within (λ nm. entry (Some nm) body nested after comma rest) []
          (text_of (opening body) ++ (entries_text nested ++ (text_of (closing body) ++ entry_back after comma rest)))
          (rename_name new (length path - 1) name)
      | None ↦
          within (entry (Some name) body nested after comma)
          (entry_prefix (Some name) body nested ++ (text_of after ++ text_of (comma_leaves comma))) []
          (rename_entry new path rest)
    ])
rename_entry-by new path name body nested after comma rest h None =
    within-is entries_text entries_text (entry (Some name) body nested after comma)
    (entry_prefix (Some name) body nested ++ (text_of after ++ text_of (comma_leaves comma))) [] rest
    (rename_entry new path rest)
    (λ y. further-entry (Some name) body nested after comma y) h
rename_entry-by new path name body nested after comma rest h (Some more) =
    within-is name_text_of entries_text (λ nm. entry (Some nm) body nested after comma rest) []
    (text_of (opening body) ++ (entries_text nested ++ (text_of (closing body) ++ entry_back after comma rest))) name
    (rename_name new (length path - 1) name)
    (λ y. entry-text (Some y) body nested after comma rest ∙ simp append_assoc refl)
    (rename_name-is new (length path - 1) name)

pub rename_entry-is : (new : Written) (path : List Part) (es : Entries)
    → EachIs entries_text es (rename_entry new path es)
rename_entry-is new path none = tt
rename_entry-is new path (entry None body nested after comma rest) = tt
rename_entry-is new path (entry (Some name) body nested after comma rest) =
    rename_entry-by new path name body nested after comma rest (rename_entry-is new path rest)
    (strip path (step 0 (Some name)))

pub renaming-is : (new : Written) → IsAct (renaming new)
renaming-is new [] v = tt
renaming-is new (p ∷ ps) v =
    within-is entries_text text_of_value (λ es. record v { nested = es }) (text_of (opening v.body))
    (text_of (closing v.body)) v.nested (rename_entry new (p ∷ ps) v.nested)
    (λ y. in-brackets v.body y) (rename_entry-is new (p ∷ ps) v.nested)
