-- By how much each edit may make the text longer.
--
-- Each definition of an edit is gone through, and for each the bytes that it puts in are counted; what is around a
-- change adds nothing (`grows_within`). Searches into entries and key parts are inductions (`put_before_grows`,
-- `put_after_grows`, `rename_further_grows`). The hard edit is `insert`: it may write an item, an entry with its keys,
-- a line, or a new section with its header. For each, the keys that are written are those after the holder, so the
-- path's text bounds them. The bound is met by a new section (`section_grows`).
--
-- Theorems: `insert_grows`, `rename_grows`, `append_table_grows`, `append_element_grows`: the most bytes that each edit
-- adds.
use Rattle.std.proofs.Common.{◌≡◌, ℕ, zero, suc, ◌+◌, ◌-◌, ◌≤◌, Bool, true, false, cond, ◌&&◌, not, List, [], ◌∷◌, ◌++◌}
use Rattle.std.proofs.Common.{length, map, take, drop, refl, sym, ap, subst, ◌∙◌, length-append, arith, Option, Some}
use Rattle.std.proofs.Common.{None}
use Rattle.std.specs.Prelude.{⊤, codes, position, nat_lt}
use Rattle.std.specs.List.{list_any}
use Rattle.std.proofs.Math.Seq.{drop-append_seam}
use Rattle.keep_types.specs.declared.leaf.Leaf.TheVariants as leaf
use Rattle.keep_types.specs.declared.leaf.Profile.{Profile}
use Rattle.keep_syntax.specs.Profiles.{is_allowed_in}
use Rattle.keep_syntax.specs.Tree.{Written, Gap, Further, further_leaves, Key, key_leaves, Name, named_leaves, opening}
use Rattle.keep_syntax.specs.Tree.{closing, comma_leaves, comment_leaves, Body, scalar, array, inline, Entries, none}
use Rattle.keep_syntax.specs.Tree.{entry, Value, Content, blank, keyval, header, element, Line, Ended, Document}
use Rattle.keep_syntax.specs.Tree.{text_of, value_text}
use Rattle.keep_path.specs.Path.{Part, key, index, same_path}
use Rattle.keep_path.specs.PathText.{encoded_path}
use Rattle.keep_edit_spec.specs.Edits.{key_part}
use Rattle.keep_meaning.specs.Marks.{Mention, Reading, start}
use Rattle.keep_meaning.specs.Meaning.{step, lines, mentions_in}
use Rattle.keep_meaning.specs.Nodes.{is_node}
use Rattle.keep_edit_spec.specs.declared.fault.EditFault.{EditFault}
use Rattle.keep_edit_spec.specs.declared.fault.EditFault.TheVariants as fault
use Rattle.keep_edit_spec.specs.Look.{strip, keys_in, prefixes, last_passing, holder, is_index, item_number, item_count}
use Rattle.keep_edit_spec.specs.Look.{without_last, is_table}
use Rattle.keep_edit_spec.specs.Changed.{Changed, within, or_else}
use Rattle.keep_edit_spec.specs.Values.{space, text_of_value, entry_prefix, entry_back, entries_text, put_before}
use Rattle.keep_edit_spec.specs.Values.{put_after, leads_past, bracketed_change, put_item, put_named, rename_further}
use Rattle.keep_edit_spec.specs.Values.{rename_part, rename_name, rename_entry, renaming}
use Rattle.keep_edit_spec.specs.Lines.{in_lines, last_line, leads_dotted, leads_through, body_end, newline_of}
use Rattle.keep_edit_spec.specs.Lines.{reading_at, rename_content, rename_line, part_paths, is_empty, content_text}
use Rattle.keep_edit_spec.specs.Edits.{insert, append_table, append_element, key_with, name_with, new_keyval}
use Rattle.keep_edit_spec.specs.Edits.{new_header, nested, at_line, end_of, insert_line, change_insert, change_rename}
use Rattle.keep_edit_spec.specs.Edits.{append, change}
use Rattle.keep_edit_spec.specs.Refusals.{refusal, first_that_holds, is_too_deep}
use Rattle.keep_edit_spec.proofs.Common.Runs.{AllOf}
use Rattle.keep_edit_spec.proofs.Growth.Growth.{GrowsBy, grows_within, grows_or_else, grows_more, IsBound, grows_lines}
use Rattle.keep_edit_spec.proofs.Growth.Growth.{grows_document, grows_nested, W, W-append, key_size, steps_size}
use Rattle.keep_edit_spec.proofs.Growth.Growth.{key_fits, key_fits_dotted, key_fits_path, steps_near, steps_append}
use Rattle.keep_edit_spec.proofs.Growth.Growth.{steps_drop, path_append, lines_size, keyval_size, header_size}
use Rattle.keep_edit_spec.proofs.Growth.Growth.{element_size, grows_at_line}

-- ---- insert in a value

put_before_grows : (n : ℕ) (new : Value) (es : Entries) → GrowsBy (length (value_text new) + 2) (put_before n new es)
put_before_grows n new none = tt
put_before_grows zero new (entry name body nested after comma rest) =
    omega (arith, length-append (text_of_value new) (codes ", "))
put_before_grows (suc m) new (entry name body nested after comma rest) =
    grows_within (length (value_text new) + 2) (entry name body nested after comma)
    (entry_prefix name body nested ++ (text_of after ++ text_of (comma_leaves comma))) [] (put_before m new rest)
    (put_before_grows m new rest)

put_after_grows : (prefix : List Part) (named : Option Name) (new : Value) (es : Entries)
    → GrowsBy (W (named_leaves named) + length (value_text new) + 2) (put_after prefix named new es)
put_after_grows prefix named new none = tt
put_after_grows prefix named new (entry name body nested after comma rest) =
    grows_or_else (W (named_leaves named) + length (value_text new) + 2) _ _
    (grows_within (W (named_leaves named) + length (value_text new) + 2) (entry name body nested after comma)
    (entry_prefix name body nested ++ (text_of after ++ text_of (comma_leaves comma))) []
    (put_after prefix named new rest) (put_after_grows prefix named new rest))
    (by (leads_past prefix name))
  where
    by : (b : Bool) → GrowsBy (W (named_leaves named) + length (value_text new) + 2) (elim b [
      | false ↦ None
      | true ↦ Some (record {
        to = entry name body nested [] (Some space) (entry named new.body new.nested after comma rest);
        before = entry_prefix name body nested;
        old = [];
        new = codes ", " ++ (text_of (named_leaves named) ++ text_of_value new);
        after = entry_back after comma rest;
      })
    ])
    by false = tt
    by true =
        omega (
          arith,
          length-append (codes ", ") (text_of (named_leaves named) ++ text_of_value new),
          length-append (text_of (named_leaves named)) (text_of_value new),
        )

bracketed_grows : (n : ℕ) (named : Option Name) (new : Value) (more : Entries → Option (Changed Entries))
    → W (named_leaves named) + length (value_text new) ≤ n → ((es : Entries) → GrowsBy n (more es))
    → (b : Body) (nested : Entries) → GrowsBy n (bracketed_change named new more b nested)
bracketed_grows n named new more h f (scalar w) nested = tt
bracketed_grows n named new more h f (array first) none =
    omega (arith, h, length-append (text_of (named_leaves named)) (text_of_value new))
bracketed_grows n named new more h f (inline first) none =
    omega (arith, h, length-append (text_of (named_leaves named)) (text_of_value new))
bracketed_grows n named new more h f (array first) (entry name body nested after comma rest) =
    grows_within n (λ es. record { body = array first; nested = es }) (codes "[" ++ text_of first) (codes "]")
    (more (entry name body nested after comma rest)) (f (entry name body nested after comma rest))
bracketed_grows n named new more h f (inline first) (entry name body nested after comma rest) =
    grows_within n (λ es. record { body = inline first; nested = es }) (codes "{" ++ text_of first) (codes "}")
    (more (entry name body nested after comma rest)) (f (entry name body nested after comma rest))

put_item_bound : (new : Value) → IsBound (put_item new) (λ more. length (value_text new) + 2)
put_item_bound new = record { grows = by; falls = λ p more. omega arith }
  where
    by : (more : List Part) (v : Value) → GrowsBy (length (value_text new) + 2) (put_item new more v)
    by [] v = tt
    by (key t ∷ ps) v = tt
    by (index n ∷ ps) v =
        bracketed_grows (length (value_text new) + 2) None new
        (λ es. or_else (put_before n new es) (put_after [] None new es)) (omega arith)
        (λ es. grows_or_else (length (value_text new) + 2) (put_before n new es) (put_after [] None new es)
        (put_before_grows n new es)
        (grows_more (W (named_leaves None) + length (value_text new) + 2) (length (value_text new) + 2)
        (put_after [] None new es) (omega arith) (put_after_grows [] None new es))) v.body v.nested

name_size : (keys : List (List ℕ)) → W (named_leaves (Some (name_with keys))) ≡ key_size keys + 3
name_size keys =
    W-append (key_leaves (key_with keys)) (space ++ (record { leaf = leaf.Equals; text = 0x3D ∷ [] } ∷ space))

put_named_bound : (rest : ℕ) (new : Value)
    → IsBound (put_named name_with rest new) (λ more. steps_size more + 7 + length (value_text new))
put_named_bound rest new = record { grows = by; falls = λ p more. omega (arith, steps_append p more) }
  where
    by : (more : List Part) (v : Value)
        → GrowsBy (steps_size more + 7 + length (value_text new)) (put_named name_with rest new more v)
    by more v =
        let n : ℕ = steps_size more + 7 + length (value_text new) in
        let named : Option Name = Some (name_with (keys_in more)) in
        let prefix : List Part = take (length more - rest) more in
        let less : W (named_leaves named) + length (value_text new) + 2 ≤ n =
        omega (arith, name_size (keys_in more), key_fits more) in
        bracketed_grows n named new (put_after prefix named new) (omega (arith, less))
        (λ es. grows_more (W (named_leaves named) + length (value_text new) + 2) n (put_after prefix named new es) less
        (put_after_grows prefix named new es)) v.body v.nested

-- ---- insert as a line

grows_number : (n : ℕ) (f : ℕ → Option (Changed Document)) → ((i : ℕ) → GrowsBy n (f i))
    → (other : Option (Changed Document)) → GrowsBy n other
    → (o : Option ℕ) → GrowsBy n (elim o [ Some i ↦ f i | None ↦ other ])
grows_number n f h other g None = g
grows_number n f h other g (Some i) = h i

line_grows : (s : Document) (a : List Part) (t : List ℕ) (ts : List Part) (v : Value) → length (newline_of s).text ≤ 2
    → (n : ℕ)
    → GrowsBy (length (encoded_path (a ++ key t ∷ ts)) + length (value_text v) + 12)
    (at_line s n (new_keyval (key t ∷ ts) v ∷ []))
line_grows s a t ts v h n =
    grows_more _ (length (encoded_path (a ++ key t ∷ ts)) + length (value_text v) + 12)
    (at_line s n (new_keyval (key t ∷ ts) v ∷ []))
    (omega (
      arith,
      h,
      keyval_size (key t ∷ ts) v,
      key_fits_dotted t ts,
      steps_append a (key t ∷ ts),
      steps_near (a ++ key t ∷ ts),
    )) (grows_at_line s n (new_keyval (key t ∷ ts) v ∷ []))

dotted_line_grows : (s : Document) (path : List Part) (m : ℕ) (v : Value) → length (newline_of s).text ≤ 2 → (n : ℕ)
    → GrowsBy (length (encoded_path path) + length (value_text v) + 12) (at_line s n (new_keyval (drop m path) v ∷ []))
dotted_line_grows s path m v h n =
    grows_more _ (length (encoded_path path) + length (value_text v) + 12)
    (at_line s n (new_keyval (drop m path) v ∷ []))
    (omega (arith, h, keyval_size (drop m path) v, key_fits (drop m path), steps_drop m path, steps_near path))
    (grows_at_line s n (new_keyval (drop m path) v ∷ []))

-- a new section is where the bound is met
section_grows : (s : Document) (p : Part) (ps : List Part) (t : List ℕ) (ts : List Part) (v : Value)
    → length (newline_of s).text ≤ 2 → (n : ℕ)
    → GrowsBy (length (encoded_path ((p ∷ ps) ++ key t ∷ ts)) + length (value_text v) + 12)
    (at_line s n (blank ∷ new_header (keys_in (p ∷ ps)) ∷ new_keyval (key t ∷ ts) v ∷ []))
section_grows s p ps t ts v h n =
    grows_more _ (length (encoded_path ((p ∷ ps) ++ key t ∷ ts)) + length (value_text v) + 12)
    (at_line s n (blank ∷ new_header (keys_in (p ∷ ps)) ∷ new_keyval (key t ∷ ts) v ∷ []))
    (omega (
      arith,
      h,
      keyval_size (key t ∷ ts) v,
      header_size (keys_in (p ∷ ps)),
      key_fits_dotted t ts,
      key_fits_path p ps,
      path_append p ps (key t ∷ ts),
    ))
    (grows_at_line s n (blank ∷ new_header (keys_in (p ∷ ps)) ∷ new_keyval (key t ∷ ts) v ∷ []))

pub insert_line_grows : (s : Document) (a : List Part) (t : List ℕ) (ts : List Part) (v : Value)
    → length (newline_of s).text ≤ 2
    → GrowsBy (length (encoded_path (a ++ key t ∷ ts)) + length (value_text v) + 12) (insert_line s a (key t ∷ ts) v)
insert_line_grows s [] t ts v h = line_grows s [] t ts v h _
insert_line_grows s (p ∷ ps) t ts v h =
    let a : List Part = p ∷ ps in
    let rest : List Part = key t ∷ ts in
    let n : ℕ = length (encoded_path (a ++ rest)) + length (value_text v) + 12 in
    grows_number n (λ i. at_line s i (new_keyval rest v ∷ [])) (λ i. line_grows s a t ts v h i) _
    (grows_number n (λ i.
    at_line s (suc i) (new_keyval (drop (length (reading_at i (lines s)).body) (a ++ rest)) v ∷ []))
    (λ i. dotted_line_grows s (a ++ rest) (length (reading_at i (lines s)).body) v h (suc i)) _
    (grows_number n (λ i. at_line s (body_end i (lines s)) (blank ∷ new_header (keys_in a) ∷ new_keyval rest v ∷ []))
    (λ i. section_grows s p ps t ts v h (body_end i (lines s))) None tt
    (last_line (leads_through a) start (lines s)))
    (last_line (leads_dotted a) start (lines s)))
    (end_of s a)

-- ---- the holder

pub record IsProperPrefix (path prefix : List Part) : Type 0 where
  pub head : Part
  pub tail : List Part
  pub is : path ≡ prefix ++ head ∷ tail

prefixes_cons : (p : Part) (path : List Part) (l : List (List Part)) → AllOf (IsProperPrefix path) l
    → AllOf (IsProperPrefix (p ∷ path)) (map (λ prefix. p ∷ prefix) l)
prefixes_cons p path [] h = tt
prefixes_cons p path (x ∷ l) h =
    (record { head = h.0.head; tail = h.0.tail; is = ap (λ (q : List Part). p ∷ q) h.0.is }, prefixes_cons p path l h.1)

prefixes_proper : (path : List Part) → AllOf (IsProperPrefix path) (prefixes path)
prefixes_proper [] = tt
prefixes_proper (p ∷ ps) =
    (record { head = p; tail = ps; is = refl }, prefixes_cons p ps (prefixes ps) (prefixes_proper ps))

abbrev InOption : (List Part → Type 0) → Option (List Part) → Type 0
InOption P None = ⊤
InOption P (Some a) = P a

last_in : (P : List Part → Type 0) (test : List Part → Bool) (l : List (List Part)) → AllOf P l
    → InOption P (last_passing test l)
last_in P test [] h = tt
last_in P test (x ∷ xs) h = by (last_passing test xs) (test x) (last_in P test xs h.1)
  where
    by : (o : Option (List Part)) (b : Bool) → InOption P o
        → InOption P (elim o [ Some y ↦ Some y | None ↦ cond b (Some x) None ])
    by (Some y) b k = k
    by None true k = h.0
    by None false k = tt

pub holder_proper : (p : Part) (ps : List Part) (ms : List Mention) → IsProperPrefix (p ∷ ps) (holder (p ∷ ps) ms)
holder_proper p ps ms =
    by (last_passing (λ prefix. is_node prefix ms) (prefixes (p ∷ ps)))
    (last_in (IsProperPrefix (p ∷ ps)) (λ prefix. is_node prefix ms) (prefixes (p ∷ ps)) (prefixes_proper (p ∷ ps)))
  where
    by : (o : Option (List Part)) → InOption (IsProperPrefix (p ∷ ps)) o
        → IsProperPrefix (p ∷ ps) (elim o [ Some a ↦ a | None ↦ [] ])
    by None k = record { head = p; tail = ps; is = refl }
    by (Some a) k = k

-- what insert's refusal leaves: the path is new, and so is what is after the holder, all keys
new_path : (nd ix : Bool) (more : List (Bool × EditFault))
    → first_that_holds ((not nd && ix, fault.NotFound) ∷ (nd, fault.Exists) ∷ more) ≡ None → (nd ≡ false) × (ix ≡ false)
new_path true ix more h = absurd cc
new_path false true more h = absurd cc
new_path false false more h = (refl, refl)

pub insert_grows : (profile : Profile) (limit : ℕ) (s : Document) (path : List Part) (v : Value)
    → length (newline_of s).text ≤ 2 → refusal profile limit s (insert path v) ≡ None
    → GrowsBy (length (encoded_path path) + length (value_text v) + 12) (change_insert s path v)
insert_grows profile limit s path v nl h = by (item_number path (mentions_in s)) h
  where
    fresh : (path : List Part) (p : Part) (ps prefix : List Part) → path ≡ prefix ++ p ∷ ps
        → list_any is_index (drop (length prefix) path) ≡ false
        → GrowsBy (length (encoded_path path) + length (value_text v) + 12)
        (insert_line s prefix (drop (length prefix) path) v)
    fresh path (index n) ps prefix e g =
        let k : drop (length prefix) path ≡ index n ∷ ps =
        ap (drop (length prefix)) e ∙ drop-append_seam prefix (index n ∷ ps) in
        let t : true ≡ false = sym (ap (list_any is_index) k) ∙ g in absurd cc
    fresh path (key t) ps prefix e g =
        let k : drop (length prefix) path ≡ key t ∷ ps =
        ap (drop (length prefix)) e ∙ drop-append_seam prefix (key t ∷ ps) in
        subst (λ (r : List Part).
        GrowsBy (length (encoded_path path) + length (value_text v) + 12) (insert_line s prefix r v)) (sym k)
        (subst (λ (q : List Part).
        GrowsBy (length (encoded_path q) + length (value_text v) + 12) (insert_line s prefix (key t ∷ ps) v)) (sym e)
        (insert_line_grows s prefix t ps v nl))

    both : (path : List Part) → is_node path (mentions_in s) ≡ false
        → list_any is_index (drop (length (holder path (mentions_in s))) path) ≡ false
        → GrowsBy (length (encoded_path path) + length (value_text v) + 12)
        (or_else (insert_line s (holder path (mentions_in s)) (drop (length (holder path (mentions_in s))) path) v)
        (nested (put_named name_with (length (drop (length (holder path (mentions_in s))) path)) v) path s))
    both [] nd ix = absurd cc
    both (p ∷ ps) nd ix =
        let a : List Part = holder (p ∷ ps) (mentions_in s) in
        let r : List Part = drop (length a) (p ∷ ps) in
        let f = holder_proper p ps (mentions_in s) in
        let n : ℕ = length (encoded_path (p ∷ ps)) + length (value_text v) + 12 in
        grows_or_else n (insert_line s a r v) (nested (put_named name_with (length r) v) (p ∷ ps) s)
        (fresh (p ∷ ps) f.head f.tail a f.is ix)
        (grows_more (steps_size (p ∷ ps) + 7 + length (value_text v)) n
        (nested (put_named name_with (length r) v) (p ∷ ps) s) (omega (arith, steps_near (p ∷ ps)))
        (grows_nested (put_named name_with (length r) v) (λ more. steps_size more + 7 + length (value_text v))
        (put_named_bound (length r) v) (p ∷ ps) s))

    by : (o : Option ℕ) → ◌≡◌ {A = Option EditFault} (elim o [
      | Some n ↦
          first_that_holds ((nat_lt (item_count (without_last path) (mentions_in s)) n, fault.NotFound)
          ∷ (is_too_deep limit path v (mentions_in s), fault.TooDeep) ∷ (not (is_allowed_in profile v), fault.Profile)
          ∷ [])
      | None ↦ first_that_holds ((
        not (is_node path (mentions_in s)) && list_any is_index (drop (length (holder path (mentions_in s))) path),
        fault.NotFound,
      )
          ∷ (is_node path (mentions_in s), fault.Exists)
          ∷ (not (is_table (holder path (mentions_in s)) (mentions_in s)), fault.NotTable)
          ∷ (is_too_deep limit path v (mentions_in s), fault.TooDeep)
          ∷ (not (is_allowed_in profile v), fault.Profile) ∷ [])
    ]) None → GrowsBy (length (encoded_path path) + length (value_text v) + 12) (elim o [
      | Some n ↦ nested (put_item v) path s
      | None ↦
          or_else (insert_line s (holder path (mentions_in s)) (drop (length (holder path (mentions_in s))) path) v)
          (nested (put_named name_with (length (drop (length (holder path (mentions_in s))) path)) v) path s)
    ])
    by (Some n) k =
        grows_more (length (value_text v) + 2) (length (encoded_path path) + length (value_text v) + 12)
        (nested (put_item v) path s) (omega arith)
        (grows_nested (put_item v) (λ more. length (value_text v) + 2) (put_item_bound v) path s)
    by None k =
        let (nd, ix) =
        new_path (is_node path (mentions_in s)) (list_any is_index (drop (length (holder path (mentions_in s))) path))
        ((not (is_table (holder path (mentions_in s)) (mentions_in s)), fault.NotTable)
        ∷ (is_too_deep limit path v (mentions_in s), fault.TooDeep) ∷ (not (is_allowed_in profile v), fault.Profile)
        ∷ []) k in
        both path nd ix

-- ---- rename

rename_further_grows : (new : Written) (n : ℕ) (fs : List Further) → GrowsBy (length new.text) (rename_further new n fs)
rename_further_grows new n [] = tt
rename_further_grows new zero (f ∷ fs) = omega arith
rename_further_grows new (suc m) (f ∷ fs) =
    grows_within (length new.text) (λ gs. f ∷ gs) (text_of (further_leaves f)) [] (rename_further new m fs)
    (rename_further_grows new m fs)

rename_part_grows : (new : Written) (n : ℕ) (k : Key) → GrowsBy (length new.text) (rename_part new n k)
rename_part_grows new zero k = omega arith
rename_part_grows new (suc m) k =
    grows_within (length new.text) (λ fs. record k { more = fs }) k.first.text [] (rename_further new m k.more)
    (rename_further_grows new m k.more)

rename_name_grows : (new : Written) (n : ℕ) (name : Name) → GrowsBy (length new.text) (rename_name new n name)
rename_name_grows new n name =
    grows_within (length new.text) (λ k. record name { key = k }) []
    (text_of name.before ++ (codes "=" ++ text_of name.after)) (rename_part new n name.key)
    (rename_part_grows new n name.key)

rename_entry_by : (new : Written) (path : List Part) (name : Name) (body : Body) (nested : Entries) (after : Gap)
    (comma : Option Gap) (rest : Entries)
    → GrowsBy (length new.text) (rename_entry new path rest) → (o : Option (List Part))
    → GrowsBy (length new.text) (elim o [
      | Some more ↦
          within (λ nm. entry (Some nm) body nested after comma rest) []
          (text_of (opening body) ++ (entries_text nested ++ (text_of (closing body) ++ entry_back after comma rest)))
          (rename_name new (length path - 1) name)
      | None ↦
          within (entry (Some name) body nested after comma)
          (entry_prefix (Some name) body nested ++ (text_of after ++ text_of (comma_leaves comma))) []
          (rename_entry new path rest)
    ])
rename_entry_by new path name body nested after comma rest h (Some more) =
    grows_within (length new.text) (λ nm. entry (Some nm) body nested after comma rest) []
    (text_of (opening body) ++ (entries_text nested ++ (text_of (closing body) ++ entry_back after comma rest)))
    (rename_name new (length path - 1) name) (rename_name_grows new (length path - 1) name)
rename_entry_by new path name body nested after comma rest h None =
    grows_within (length new.text) (entry (Some name) body nested after comma)
    (entry_prefix (Some name) body nested ++ (text_of after ++ text_of (comma_leaves comma))) []
    (rename_entry new path rest) h

rename_entry_grows : (new : Written) (path : List Part) (es : Entries)
    → GrowsBy (length new.text) (rename_entry new path es)
rename_entry_grows new path none = tt
rename_entry_grows new path (entry None body nested after comma rest) = tt
rename_entry_grows new path (entry (Some name) body nested after comma rest) =
    rename_entry_by new path name body nested after comma rest (rename_entry_grows new path rest)
    (strip path (step 0 (Some name)))

renaming_bound : (new : Written) → IsBound (renaming new) (λ more. length new.text)
renaming_bound new = record { grows = by; falls = λ p more. omega arith }
  where
    by : (more : List Part) (v : Value) → GrowsBy (length new.text) (renaming new more v)
    by [] v = tt
    by (p ∷ ps) v =
        grows_within (length new.text) (λ es. record v { nested = es }) (text_of (opening v.body))
        (text_of (closing v.body)) (rename_entry new (p ∷ ps) v.nested) (rename_entry_grows new (p ∷ ps) v.nested)

rename_content_grows : (new : Written) (n : ℕ) (c : Content) → GrowsBy (length new.text) (rename_content new n c)
rename_content_grows new n blank = tt
rename_content_grows new n (keyval name v) =
    grows_within (length new.text) (λ nm. keyval nm v) [] (text_of_value v) (rename_name new n name)
    (rename_name_grows new n name)
rename_content_grows new n (header b k a) =
    grows_within (length new.text) (λ k. header b k a) (codes "[" ++ text_of b) (text_of a ++ codes "]")
    (rename_part new n k) (rename_part_grows new n k)
rename_content_grows new n (element b k a) =
    grows_within (length new.text) (λ k. element b k a) (codes "[[" ++ text_of b) (text_of a ++ codes "]]")
    (rename_part new n k) (rename_part_grows new n k)

rename_line_grows : (new : Written) (path : List Part) (r : Reading) (l : Line)
    → GrowsBy (length new.text) (rename_line new path r l)
rename_line_grows new path r l = by (position (same_path path) (part_paths r l.content))
  where
    by : (o : Option ℕ) → GrowsBy (length new.text) (elim o [
      | None ↦ None
      | Some n ↦
          within (λ c. record l { content = c }) (text_of l.before)
          (text_of l.after ++ text_of (comment_leaves l.comment)) (rename_content new n l.content)
    ])
    by None = tt
    by (Some n) =
        grows_within (length new.text) (λ c. record l { content = c }) (text_of l.before)
        (text_of l.after ++ text_of (comment_leaves l.comment)) (rename_content new n l.content)
        (rename_content_grows new n l.content)

pub rename_grows : (s : Document) (path : List Part) (name : List ℕ)
    → GrowsBy (length (key_part name).text) (change_rename s path name)
rename_grows s path name =
    let n : ℕ = length (key_part name).text in
    grows_or_else n _ _
    (grows_document n s (in_lines (rename_line (key_part name) path) start s.ended s.last)
    (grows_lines n (rename_line (key_part name) path) (rename_line_grows (key_part name) path) start s.ended s.last))
    (grows_nested (renaming (key_part name)) (λ more. n) (renaming_bound (key_part name)) path s)

-- ---- appends

blank_and_grows : (s : Document) (c : Content) (n m : ℕ) → length (newline_of s).text ≤ 2 → length (content_text c) ≤ n
    → GrowsBy (n + 6) (at_line s m (blank ∷ c ∷ []))
blank_and_grows s c n m h k =
    grows_more (length (newline_of s).text + lines_size (length (newline_of s).text) (blank ∷ c ∷ [])) (n + 6)
    (at_line s m (blank ∷ c ∷ [])) (omega (arith, h, k)) (grows_at_line s m (blank ∷ c ∷ []))

alone_grows : (s : Document) (c : Content) (n m : ℕ) → length (newline_of s).text ≤ 2 → length (content_text c) ≤ n
    → GrowsBy (n + 6) (at_line s m (c ∷ []))
alone_grows s c n m h k =
    grows_more (length (newline_of s).text + lines_size (length (newline_of s).text) (c ∷ [])) (n + 6)
    (at_line s m (c ∷ [])) (omega (arith, h, k)) (grows_at_line s m (c ∷ []))

pub append_grows : (s : Document) (c : Content) (n : ℕ) → length (newline_of s).text ≤ 2 → length (content_text c) ≤ n
    → GrowsBy (n + 6) (append s c)
append_grows s c n h k = by s.ended
  where
    when : (b : Bool) (o p : Option (Changed Document)) → GrowsBy (n + 6) o → GrowsBy (n + 6) p
        → GrowsBy (n + 6) (cond b o p)
    when true o p x y = x
    when false o p x y = y

    by : (es : List Ended) → GrowsBy (n + 6) (elim es [
      | [] ↦ cond (is_empty s.last) (at_line s 0 (c ∷ [])) (at_line s 1 (blank ∷ c ∷ []))
      | e ∷ es ↦
          cond (is_empty s.last) (at_line s (length s.ended) (blank ∷ c ∷ []))
          (at_line s (suc (length s.ended)) (blank ∷ c ∷ []))
    ])
    by [] = when (is_empty s.last) (at_line s 0 (c ∷ [])) (at_line s 1 (blank ∷ c ∷ [])) (alone_grows s c n 0 h k)
        (blank_and_grows s c n 1 h k)
    by (e ∷ es) =
        when (is_empty s.last) (at_line s (length s.ended) (blank ∷ c ∷ []))
        (at_line s (suc (length s.ended)) (blank ∷ c ∷ [])) (blank_and_grows s c n (length s.ended) h k)
        (blank_and_grows s c n (suc (length s.ended)) h k)

keys_back : (ks : List (List ℕ)) → keys_in (map key ks) ≡ ks
keys_back [] = refl
keys_back (k ∷ ks) = ap (λ l. k ∷ l) (keys_back ks)

pub keys_fit : (ks : List (List ℕ)) → key_size ks ≤ length (encoded_path (map key ks)) + 2
keys_fit [] = omega arith
keys_fit (k ∷ ks) =
    let h : key_size (keys_in (map key (k ∷ ks))) ≤ length (encoded_path (map key (k ∷ ks))) =
    key_fits_path (key k) (map key ks) in
    let g : key_size (k ∷ ks) ≤ length (encoded_path (map key (k ∷ ks))) =
    subst (λ l. key_size l ≤ length (encoded_path (map key (k ∷ ks)))) (keys_back (k ∷ ks)) h in
    omega (arith, g)

pub append_table_grows : (s : Document) (keys : List (List ℕ)) → length (newline_of s).text ≤ 2
    → GrowsBy (length (encoded_path (map key keys)) + 12) (change s (append_table keys))
append_table_grows s keys h =
    grows_more (key_size keys + 2 + 6) (length (encoded_path (map key keys)) + 12)
    (append s (header [] (key_with keys) [])) (omega (arith, keys_fit keys))
    (append_grows s (header [] (key_with keys) []) (key_size keys + 2) h (omega (arith, header_size keys)))

pub append_element_grows : (s : Document) (keys : List (List ℕ)) → length (newline_of s).text ≤ 2
    → GrowsBy (length (encoded_path (map key keys)) + 12) (change s (append_element keys))
append_element_grows s keys h =
    grows_more (key_size keys + 4 + 6) (length (encoded_path (map key keys)) + 12)
    (append s (element [] (key_with keys) [])) (omega (arith, keys_fit keys))
    (append_grows s (element [] (key_with keys) []) (key_size keys + 4) h (omega (arith, element_size keys)))
