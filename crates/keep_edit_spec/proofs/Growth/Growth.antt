-- How much longer the text can get by an edit.
--
-- A change grows by at most n if what is put in is at most n bytes longer than what is taken out (`GrowsBy`). What is
-- around a change adds nothing (`grows_within`), so a bound of an act is one of the search that uses it: for entries by
-- induction, then for lines and documents (`grows_nested`). A bound may depend on the rest of the path, if it does not
-- fall for a longer one (`IsBound`). The second half measures what is written: keys are no longer than the path's own
-- text, up to two bytes (`key_fits` and its like), and new lines have their contents and newlines (`keyval_size`,
-- `header_size`, `grows_at_line`).
--
-- Theorems: `grows_nested` for acts in values; `grows_at_line` for new lines.
use Rattle.std.proofs.Common.{◌≡◌, ℕ, zero, suc, ◌+◌, ◌≤◌, List, [], ◌∷◌, ◌++◌, length, map, drop, refl, sym, ap, subst}
use Rattle.std.proofs.Common.{◌∙◌, length-append, arith, Option, Some, None}
use Rattle.std.specs.Prelude.{codes, decimal}
use Rattle.std.specs.List.{flat_map}
use Rattle.std.proofs.lemmas.Grind.{flat_map-append}
use Rattle.keep_types.specs.declared.leaf.Leaf.TheVariants as leaf
use Rattle.keep_syntax.specs.Tree.{Written, Gap, Name, key_leaves, further_leaves, name_leaves, named_leaves, opening}
use Rattle.keep_syntax.specs.Tree.{closing, comma_leaves, comment_leaves, Body, Entries, none, entry, Value}
use Rattle.keep_syntax.specs.Tree.{value_leaves, Content, blank, keyval, header, element, content_leaves, Line, Ended}
use Rattle.keep_syntax.specs.Tree.{Document, ended_leaves, bom_leaves, text_of, value_text}
use Rattle.keep_path.specs.Path.{Part, key, index}
use Rattle.keep_path.specs.PathText.{part_text, encoded_path}
use Rattle.keep_edit_spec.specs.Edits.{key_part}
use Rattle.keep_meaning.specs.Marks.{Reading, start}
use Rattle.keep_meaning.specs.Meaning.{step, after_line}
use Rattle.keep_edit_spec.specs.Look.{strip, keys_in}
use Rattle.keep_edit_spec.specs.Changed.{Changed, IsChangeOf, within, or_else}
use Rattle.keep_edit_spec.specs.Values.{Act, entry_prefix, entry_back, in_entries, in_value, space}
use Rattle.keep_edit_spec.specs.Lines.{Page, page_text, ended_text, in_content, in_line, in_lines, in_document}
use Rattle.keep_edit_spec.specs.Lines.{with_page, put_lines, newline_of, new_line, content_text}
use Rattle.keep_edit_spec.specs.Edits.{key_with, name_with, new_keyval, further_part, nested, at_line}
use Rattle.keep_edit_spec.proofs.Common.Runs.{strip-sound}
use Rattle.keep_edit_spec.proofs.Common.Texts.{text_of-append}
use Rattle.keep_edit_spec.proofs.Common.DoneAtValue.{EachOf, of_within, of_or_else}

-- what comes is no longer than what goes, but for n bytes
abbrev pub GrowsBy : {A : Type 0} → ℕ → Option (Changed A) → Type 0
GrowsBy n o = EachOf (λ c. length c.new ≤ length c.old + n) o

pub grows_within : {A B : Type 0} (n : ℕ) (outer : A → B) (left right : List ℕ) (o : Option (Changed A)) → GrowsBy n o
    → GrowsBy n (within outer left right o)
grows_within n outer left right o h =
    of_within (λ c. length c.new ≤ length c.old + n) (λ c. length c.new ≤ length c.old + n) outer left right o
    (λ c k. k) h

pub grows_or_else : {A : Type 0} (n : ℕ) (o p : Option (Changed A)) → GrowsBy n o → GrowsBy n p
    → GrowsBy n (or_else o p)
grows_or_else n o p h g = of_or_else (λ c. length c.new ≤ length c.old + n) o p h g

pub grows_more : {A : Type 0} (m n : ℕ) (o : Option (Changed A)) → m ≤ n → GrowsBy m o → GrowsBy n o
grows_more m n None e h = tt
grows_more m n (Some c) e h = omega (arith, h, e)

-- the text grows no more than that
pub longer_text : {A : Type 0} (f : A → List ℕ) (from : A) (n : ℕ) (c : Changed A) → IsChangeOf f from c
    → length c.new ≤ length c.old + n → length (f c.to) ≤ length (f from) + n
longer_text f from n c h g =
    omega (
      arith,
      g,
      ap (λ (l : List ℕ). length l) h.was,
      ap (λ (l : List ℕ). length l) h.is,
      length-append c.before (c.old ++ c.after),
      length-append c.before (c.new ++ c.after),
      length-append c.old c.after,
      length-append c.new c.after,
    )

-- ---- in values

-- by how much an act may grow, given by the rest of the path
pub record IsBound (act : Act) (g : List Part → ℕ) : Type 0 where
  pub grows : (more : List Part) (v : Value) → GrowsBy (g more) (act more v)
  pub falls : (p more : List Part) → g more ≤ g (p ++ more)

bound_value-by : (act : Act) (g : List Part → ℕ) → IsBound act g
    → (more : List Part) (body : Body) (nested : Entries) (left right : List ℕ)
    → GrowsBy (g more) (in_entries act more 0 nested)
    → GrowsBy (g more) (or_else (within (λ es. record { body = body; nested = es }) left right
    (in_entries act more 0 nested)) (act more (record { body = body; nested = nested })))
bound_value-by act g b more body nested left right h =
    let v : Value = record { body = body; nested = nested } in
    grows_or_else (g more) (within (λ es. record { body = body; nested = es }) left right
    (in_entries act more 0 nested)) (act more v)
    (grows_within (g more) (λ es. record { body = body; nested = es }) left right (in_entries act more 0 nested) h)
    (b.grows more v)

bound_entries-by : (act : Act) (g : List Part → ℕ) → IsBound act g
    → (path : List Part) (n : ℕ) (name : Option Name) (body : Body) (nested : Entries) (after : Gap)
    (comma : Option Gap) (rest : Entries)
    → GrowsBy (g path) (in_entries act path (n + 1) rest)
    → ((more : List Part) → GrowsBy (g more) (in_entries act more 0 nested))
    → (o : Option (List Part)) → strip (step n name) path ≡ o
    → GrowsBy (g path) (elim o [
      | None ↦
          within (entry name body nested after comma)
          (entry_prefix name body nested ++ (text_of after ++ text_of (comma_leaves comma))) []
          (in_entries act path (n + 1) rest)
      | Some more ↦
          within (λ v. entry name v.body v.nested after comma rest) (text_of (named_leaves name))
          (entry_back after comma rest)
          (or_else (within (λ es. record { body = body; nested = es }) (text_of (opening body)) (text_of (closing body))
          (in_entries act more 0 nested))
          (act more (record { body = body; nested = nested })))
    ])
bound_entries-by act g b path n name body nested after comma rest further deeper None e =
    grows_within (g path) (entry name body nested after comma)
    (entry_prefix name body nested ++ (text_of after ++ text_of (comma_leaves comma))) []
    (in_entries act path (n + 1) rest) further
bound_entries-by act g b path n name body nested after comma rest further deeper (Some more) e =
    let less : g more ≤ g path =
    subst (λ (q : List Part). g more ≤ g q) (sym (strip-sound (step n name) path more e))
    (b.falls (step n name) more) in
    grows_within (g path) (λ v. entry name v.body v.nested after comma rest) (text_of (named_leaves name))
    (entry_back after comma rest) _
    (grows_more (g more) (g path) _ less
    (bound_value-by act g b more body nested (text_of (opening body)) (text_of (closing body)) (deeper more)))

bound_entries : (act : Act) (g : List Part → ℕ) → IsBound act g → (path : List Part) (n : ℕ) (es : Entries)
    → GrowsBy (g path) (in_entries act path n es)
bound_entries act g b path n none = tt
bound_entries act g b path n (entry name body nested after comma rest) =
    bound_entries-by act g b path n name body nested after comma rest (bound_entries act g b path (n + 1) rest)
    (λ more. bound_entries act g b more 0 nested) (strip (step n name) path) refl

bound_value : (act : Act) (g : List Part → ℕ) → IsBound act g → (path : List Part) (v : Value)
    → GrowsBy (g path) (in_value act path v)
bound_value act g b path v =
    bound_value-by act g b path v.body v.nested (text_of (opening v.body)) (text_of (closing v.body))
    (bound_entries act g b path 0 v.nested)

bound_content-by : (act : Act) (g : List Part → ℕ) → IsBound act g
    → (body path : List Part) (name : Name) (v : Value) (o : Option (List Part))
    → strip (body ++ step 0 (Some name)) path ≡ o
    → GrowsBy (g path) (elim o [
      | None ↦ None
      | Some more ↦
          within (keyval name) (text_of (name_leaves name)) [] (in_value act more v)
    ])
bound_content-by act g b body path name v None e = tt
bound_content-by act g b body path name v (Some more) e =
    let p : List Part = body ++ step 0 (Some name) in
    let less : g more ≤ g path =
    subst (λ (q : List Part). g more ≤ g q) (sym (strip-sound p path more e)) (b.falls p more) in
    grows_within (g path) (keyval name) (text_of (name_leaves name)) [] (in_value act more v)
    (grows_more (g more) (g path) (in_value act more v) less (bound_value act g b more v))

bound_content : (act : Act) (g : List Part → ℕ) → IsBound act g → (body path : List Part) (c : Content)
    → GrowsBy (g path) (in_content act body path c)
bound_content act g b body path blank = tt
bound_content act g b body path (keyval name v) =
    bound_content-by act g b body path name v (strip (body ++ step 0 (Some name)) path) refl
bound_content act g b body path (header x k y) = tt
bound_content act g b body path (element x k y) = tt

-- ---- in lines

pub grows_lines : (n : ℕ) (f : Reading → Line → Option (Changed Line)) → ((r : Reading) (l : Line) → GrowsBy n (f r l))
    → (r : Reading) (es : List Ended) (last : Line) → GrowsBy n (in_lines f r es last)
grows_lines n f h r [] last = grows_within n (λ l. record { ended = []; last = l }) [] [] (f r last) (h r last)
grows_lines n f h r (e ∷ es) last =
    let o : Option (Changed Page) =
    within (λ l. record { ended = record { line = l; newline = e.newline } ∷ es; last = last }) []
    (e.newline.text ++ page_text (record { ended = es; last = last })) (f r e.line) in
    let p : Option (Changed Page) =
    within (λ b. record { ended = e ∷ b.ended; last = b.last }) (text_of (ended_leaves e)) []
    (in_lines f (after_line r e.line) es last) in
    grows_or_else n o p
    (grows_within n (λ l. record { ended = record { line = l; newline = e.newline } ∷ es; last = last }) []
    (e.newline.text ++ page_text (record { ended = es; last = last })) (f r e.line) (h r e.line))
    (grows_within n (λ b. record { ended = e ∷ b.ended; last = b.last }) (text_of (ended_leaves e)) []
    (in_lines f (after_line r e.line) es last) (grows_lines n f h (after_line r e.line) es last))

pub grows_document : (n : ℕ) (s : Document) (o : Option (Changed Page)) → GrowsBy n o → GrowsBy n (in_document s o)
grows_document n s o h = grows_within n (with_page s) (text_of (bom_leaves s.bom)) [] o h

pub grows_nested : (act : Act) (g : List Part → ℕ) → IsBound act g → (path : List Part) (s : Document)
    → GrowsBy (g path) (nested act path s)
grows_nested act g b path s =
    grows_document (g path) s (in_lines (in_line act path) start s.ended s.last)
    (grows_lines (g path) (in_line act path)
    (λ r l. grows_within (g path) (λ c. record l { content = c }) (text_of l.before)
    (text_of l.after ++ text_of (comment_leaves l.comment)) (in_content act r.body path l.content)
    (bound_content act g b r.body path l.content))
    start s.ended s.last)

-- ---- how long keys are

abbrev pub W : List Written → ℕ
W ws = length (text_of ws)

pub W-append : (a b : List Written) → W (a ++ b) ≡ W a + W b
W-append a b = ap (λ (l : List ℕ). length l) (text_of-append a b) ∙ length-append (text_of a) (text_of b)

W-cons : (w : Written) (ws : List Written) → W (w ∷ ws) ≡ length w.text + W ws
W-cons w ws = length-append w.text (text_of ws)

-- a key of these parts
abbrev pub key_size : List (List ℕ) → ℕ
key_size keys = W (key_leaves (key_with keys))

abbrev pub dots_size : List (List ℕ) → ℕ
dots_size keys = W (flat_map further_leaves (map further_part keys))

-- the steps of a path
abbrev pub steps_size : List Part → ℕ
steps_size path = length (flat_map part_text path)

key_size-cons : (k : List ℕ) (ks : List (List ℕ)) → key_size (k ∷ ks) ≡ length (key_part k).text + dots_size ks
key_size-cons k ks = W-cons (key_part k) (flat_map further_leaves (map further_part ks))

dots_size-cons : (k : List ℕ) (ks : List (List ℕ)) → dots_size (k ∷ ks) ≡ 1 + length (key_part k).text + dots_size ks
dots_size-cons k ks =
    omega (
      arith,
      W-append (further_leaves (further_part k)) (flat_map further_leaves (map further_part ks)),
      W-cons (record { leaf = leaf.Dot; text = 0x2E ∷ [] }) (key_part k ∷ []),
      W-cons (key_part k) [],
    )

steps_size-cons : (p : Part) (ps : List Part) → steps_size (p ∷ ps) ≡ length (part_text p) + steps_size ps
steps_size-cons p ps = length-append (part_text p) (flat_map part_text ps)

part_size-key : (t : List ℕ) → length (part_text (key t)) ≡ 1 + length (key_part t).text
part_size-key t = length-append (codes ".") (key_part t).text

part_size-index : (n : ℕ) → length (part_text (index n)) ≡ 2 + length (decimal n)
part_size-index n =
    omega (arith, length-append (codes "[") (decimal n ++ codes "]"), length-append (decimal n) (codes "]"))

dots_fit : (ps : List Part) → dots_size (keys_in ps) ≤ steps_size ps
dots_fit [] = omega arith
dots_fit (key t ∷ ps) =
    omega (arith, dots_fit ps, dots_size-cons t (keys_in ps), steps_size-cons (key t) ps, part_size-key t)
dots_fit (index n ∷ ps) = omega (arith, dots_fit ps, steps_size-cons (index n) ps)

pub key_fits : (p : List Part) → key_size (keys_in p) ≤ steps_size p + 2
key_fits [] = omega arith
key_fits (key t ∷ ps) =
    omega (arith, dots_fit ps, key_size-cons t (keys_in ps), steps_size-cons (key t) ps, part_size-key t)
key_fits (index n ∷ ps) = omega (arith, key_fits ps, steps_size-cons (index n) ps)

pub key_fits_dotted : (t : List ℕ) (ps : List Part) → key_size (keys_in (key t ∷ ps)) + 1 ≤ steps_size (key t ∷ ps)
key_fits_dotted t ps =
    omega (arith, dots_fit ps, key_size-cons t (keys_in ps), steps_size-cons (key t) ps, part_size-key t)

pub key_fits_path : (p : Part) (ps : List Part) → key_size (keys_in (p ∷ ps)) ≤ length (encoded_path (p ∷ ps))
key_fits_path (key t) ps =
    omega (arith, dots_fit ps, key_size-cons t (keys_in ps), length-append (key_part t).text (flat_map part_text ps))
key_fits_path (index n) ps = omega (arith, key_fits ps, steps_size-cons (index n) ps, part_size-index n)

pub steps_near : (p : List Part) → steps_size p ≤ length (encoded_path p) + 1
steps_near [] = omega arith
steps_near (key t ∷ ps) =
    omega (arith, steps_size-cons (key t) ps, part_size-key t, length-append (key_part t).text (flat_map part_text ps))
steps_near (index n ∷ ps) = omega arith

pub steps_append : (a b : List Part) → steps_size (a ++ b) ≡ steps_size a + steps_size b
steps_append a b =
    ap (λ (l : List ℕ). length l) (flat_map-append part_text a b)
    ∙ length-append (flat_map part_text a) (flat_map part_text b)

pub steps_drop : (m : ℕ) (p : List Part) → steps_size (drop m p) ≤ steps_size p
steps_drop zero p = omega arith
steps_drop (suc m) [] = omega arith
steps_drop (suc m) (p ∷ ps) = omega (arith, steps_drop m ps, steps_size-cons p ps)

pub path_append : (p : Part) (ps r : List Part)
    → length (encoded_path ((p ∷ ps) ++ r)) ≡ length (encoded_path (p ∷ ps)) + steps_size r
path_append (key t) ps r =
    omega (
      arith,
      length-append (key_part t).text (flat_map part_text (ps ++ r)),
      length-append (key_part t).text (flat_map part_text ps),
      steps_append ps r,
    )
path_append (index n) ps r = steps_append (index n ∷ ps) r

-- ---- new lines

pub keyval_size : (rest : List Part) (v : Value)
    → length (content_text (new_keyval rest v)) ≡ key_size (keys_in rest) + 3 + length (value_text v)
keyval_size rest v =
    omega (
      arith,
      W-append (name_leaves (name_with (keys_in rest))) (value_leaves v),
      W-append (key_leaves (key_with (keys_in rest)))
          (space ++ (record { leaf = leaf.Equals; text = 0x3D ∷ [] } ∷ space)),
    )

pub header_size : (keys : List (List ℕ)) → length (content_text (header [] (key_with keys) [])) ≡ key_size keys + 2
header_size keys =
    omega (
      arith,
      W-cons (record { leaf = leaf.HeadOpen; text = 0x5B ∷ [] })
          (key_leaves (key_with keys) ++ (record { leaf = leaf.HeadClose; text = 0x5D ∷ [] } ∷ [])),
      W-append (key_leaves (key_with keys)) (record { leaf = leaf.HeadClose; text = 0x5D ∷ [] } ∷ []),
    )

pub element_size : (keys : List (List ℕ)) → length (content_text (element [] (key_with keys) [])) ≡ key_size keys + 4
element_size keys =
    omega (
      arith,
      W-cons (record { leaf = leaf.ElemOpen; text = 0x5B ∷ 0x5B ∷ [] })
          (key_leaves (key_with keys) ++ (record { leaf = leaf.ElemClose; text = 0x5D ∷ 0x5D ∷ [] } ∷ [])),
      W-append (key_leaves (key_with keys)) (record { leaf = leaf.ElemClose; text = 0x5D ∷ 0x5D ∷ [] } ∷ []),
    )

-- the lines of contents, each with this newline
abbrev pub lines_size : ℕ → List Content → ℕ
lines_size n [] = 0
lines_size n (c ∷ cs) = length (content_text c) + n + lines_size n cs

lines_long : (w : Written) (cs : List Content)
    → length (ended_text (map (new_line w) cs)) ≡ lines_size (length w.text) cs
lines_long w [] = refl
lines_long w (c ∷ cs) =
    omega (
      arith,
      lines_long w cs,
      W-append (ended_leaves (new_line w c)) (flat_map ended_leaves (map (new_line w) cs)),
      W-append (content_leaves c ++ []) (w ∷ []),
      W-append (content_leaves c) [],
      W-cons w [],
    )

put_size : (n : ℕ) (new : List Ended) (w : Written) (es : List Ended) (last : Line)
    → length (put_lines n new w es last).new ≤ length w.text + length (ended_text new)
put_size zero new w [] last = omega arith
put_size (suc m) new w [] last = omega (arith, length-append w.text (ended_text new))
put_size zero new w (e ∷ es) last = omega arith
put_size (suc m) new w (e ∷ es) last = put_size m new w es last

pub grows_at_line : (s : Document) (n : ℕ) (cs : List Content)
    → GrowsBy (length (newline_of s).text + lines_size (length (newline_of s).text) cs) (at_line s n cs)
grows_at_line s n cs =
    omega (
      arith,
      put_size n (map (new_line (newline_of s)) cs) (newline_of s) s.ended s.last,
      lines_long (newline_of s) cs,
    )
