-- `insert` of a keyval after the last line whose dotted key continues from the holder: all that holds of it.
--
-- Lines put in after line i leave what is said before them and after them (`mentions_put`), as a keyval does not end a
-- body. The new key goes by the steps of that line's own key up to the holder, so each mention that it makes on its way
-- is one that the line makes too (`IsDottedLine.doubles`), and such a double does no harm to the rules. Its first new
-- key names no node, so the rest is new (`dotted_law`).
--
-- Theorems: `dotted_content`, `dotted_line`, `dotted_path`, `dotted_change` and `insert_after_dotted`.
use Rattle.std.proofs.Common.{◌≡◌, ℕ, suc, ◌≤◌, Bool, true, false, not, ◌&&◌, ◌||◌, List, [], ◌∷◌, ◌++◌, length, map}
use Rattle.std.proofs.Common.{take, drop, refl, sym, ap, subst, ◌∙◌, append_assoc, length-append, arith, Option, Some}
use Rattle.std.proofs.Common.{None}
use Rattle.std.specs.List.{list_any}
use Rattle.std.proofs.lemmas.List.{map-append, append-nil, take-append-drop, length-map}
use Rattle.keep_types.specs.declared.leaf.Profile.{Profile}
use Rattle.keep_syntax.specs.Tree.{Written, Gap, Name, Value, Content, blank, keyval, header, element, Line, Document}
use Rattle.keep_syntax.specs.Grammar.{IsValue, IsDocument}
use Rattle.keep_path.specs.Path.{Part, key}
use Rattle.keep_meaning.specs.Rules.{ObeysRules}
use Rattle.keep_meaning.specs.Marks.{value, Mention, below, Reading, start, marks}
use Rattle.keep_meaning.specs.Meaning.{keys_of, body_fact, valued_mentions, keyed_mentions, entries_mentions}
use Rattle.keep_meaning.specs.Meaning.{keyval_mentions, line_mentions, lines_mentions, reading_after_lines, line_of}
use Rattle.keep_meaning.specs.Meaning.{lines, mentions_in, mentions_of_value}
use Rattle.keep_meaning.specs.Nodes.{is_at, is_root, has, is_define, is_begun, is_dotted}
use Rattle.keep_edit_spec.specs.Look.{holder, item_number, keys_in}
use Rattle.keep_edit_spec.specs.Changed.{Changed}
use Rattle.keep_edit_spec.specs.Lines.{new_line, newline_of, last_line, leads_dotted, reading_at}
use Rattle.keep_edit_spec.specs.Edits.{insert, change, change_insert, insert_line, end_of, at_line, new_keyval}
use Rattle.keep_edit_spec.specs.Edits.{name_with}
use Rattle.keep_edit_spec.specs.Refusals.{refusal}
use Rattle.keep_edit_spec.specs.Trees.{is_through_alone, has_fact}
use Rattle.keep_edit_spec.proofs.Common.Runs.{AllOf, SomeOf, some_left, some_right, Rules}
use Rattle.keep_edit_spec.proofs.Common.SetLaw.{EachTo, keyed_split}
use Rattle.keep_edit_spec.proofs.Common.SetDocument.{each_to, mentions_of, reading_of}
use Rattle.keep_edit_spec.proofs.Common.SetWhole.{IsSetWhole}
use Rattle.keep_edit_spec.proofs.Common.LineLaws.{lines_mentions-append}
use Rattle.keep_edit_spec.proofs.Common.PutLines.{put_mentions}
use Rattle.keep_edit_spec.proofs.Append.AppendLaw.{reading_append}
use Rattle.keep_edit_spec.proofs.Common.InsertLaw.{fresh_disjoint, IsKeyvalLaw}
use Rattle.keep_edit_spec.proofs.Common.Marks.{rules_of_document, rules_of_value}
use Rattle.keep_edit_spec.proofs.Insert.NewPath.{IsNewPath, new_path, keys_of_map, drop_prefix_parts}
use Rattle.keep_edit_spec.proofs.Common.BodyEnd.{last_found, take_before}
use Rattle.keep_edit_spec.proofs.Common.NewLines.{IsKeyText, valid_at_line, valid_name, key_means}
use Rattle.keep_edit_spec.proofs.Insert.InsertLine.{insert_whole, later_keys}
use Rattle.keep_edit_spec.proofs.Common.Doubles.{IsDoubleOf, doubles_left, doubles_right, doubles_self, IsMentioned}
use Rattle.keep_edit_spec.proofs.Common.Doubles.{some_has, has_some}
use Rattle.keep_edit_spec.proofs.Insert.KeyvalPut.{keyval_put_law}
use Rattle.keep_edit_spec.proofs.Common.Stops.{stops, keyed_stops, repeats_below, some_unbelow, some_mentioned_below}
use Rattle.keep_edit_spec.proofs.Common.Stops.{Continues, dotted_prefix}

-- ---- what is said with lines put in

pub mentioned_before : (s : Document) (n : ℕ)
    → mentions_in s ≡ lines_mentions start (take n (lines s))
    ++ lines_mentions (reading_after_lines start (take n (lines s))) (drop n (lines s))
mentioned_before s n =
    ap (lines_mentions start) (sym (take-append-drop n (lines s)))
    ∙ lines_mentions-append start (take n (lines s)) (drop n (lines s))

pub mentions_put : (s : Document) (n : ℕ) (cs : List Content) → n ≤ suc (length s.ended)
    → (let r : Reading = reading_after_lines start (take n (lines s)) in
    let new : List Line = map line_of (map (new_line (newline_of s)) cs) in
    EachTo (λ s'.
    mentions_in s' ≡ lines_mentions start (take n (lines s))
    ++ (lines_mentions r new ++ lines_mentions (reading_after_lines r new) (drop n (lines s)))) (at_line s n cs))
mentions_put s n cs few =
    let ls : List Line = lines s in
    let new : List Line = map line_of (map (new_line (newline_of s)) cs) in
    put_mentions start n (map (new_line (newline_of s)) cs) (newline_of s) s.ended s.last few
    ∙ lines_mentions-append start (take n ls) (new ++ drop n ls)
    ∙ ap (λ l. lines_mentions start (take n ls) ++ l)
    (lines_mentions-append (reading_after_lines start (take n ls)) new (drop n ls))

-- A keyval whose key goes by stops that are doubles, and then by a key that names no node.
pub dotted_law : (profile : Profile) (s : Document) (n : ℕ) (body : List Part) (f : List ℕ) (fs : List (List ℕ))
    (k : List ℕ) (ks : List (List ℕ)) (v : Value)
    → n ≤ length (lines s) → (reading_after_lines start (take n (lines s))).body ≡ body
    → AllOf (IsKeyText profile) (f ∷ (fs ++ k ∷ ks))
    → list_any (is_at ((body ++ map key (f ∷ fs)) ++ key k ∷ [])) (mentions_in s) ≡ false
    → AllOf (IsDoubleOf (lines_mentions start (take n (lines s)))) (map (below body) (stops (f ∷ fs)))
    → Rules (mentions_in s) → Rules (mentions_of_value v)
    → EachTo (IsKeyvalLaw s (body ++ map key (f ∷ (fs ++ k ∷ ks))) v)
    (at_line s n (keyval (name_with (f ∷ (fs ++ k ∷ ks))) v ∷ []))
dotted_law profile s n body f fs k ks v few at_body texts fresh doubles rules value_rules =
    let name : Name = name_with (f ∷ (fs ++ k ∷ ks)) in
    let r : Reading = reading_after_lines start (take n (lines s)) in
    let before : List Mention = lines_mentions start (take n (lines s)) in
    let after : List Mention = lines_mentions r (drop n (lines s)) in
    let p0 : List Part = (body ++ map key (f ∷ fs)) ++ key k ∷ [] in
    let enough : n ≤ suc (length s.ended) =
    omega (arith, few, length-append (map line_of s.ended) (s.last ∷ []), length-map s.ended line_of) in
    each_to (λ s'. mentions_in s' ≡ before ++ ((map (below r.body) (keyval_mentions name v) ++ []) ++ after))
    (IsKeyvalLaw s (body ++ map key (f ∷ (fs ++ k ∷ ks))) v) (at_line s n (keyval name v ∷ []))
    (λ s' is.
    let now : mentions_in s' ≡ before ++ (map (below body) (keyval_mentions name v) ++ after) =
    is ∙ ap (λ (l : List Mention). before ++ (l ++ after))
    (append-nil (map (below r.body) (keyval_mentions name v))
    ∙ ap (λ (b : List Part). map (below b) (keyval_mentions name v)) at_body) in
    keyval_put_law s s' body (f ∷ fs) k ks name v before after (mentioned_before s n) now
    (key_means profile f (fs ++ k ∷ ks) texts) (fresh_disjoint p0 (lines s) (body ++ map key (f ∷ fs), k, refl) fresh)
    doubles rules value_rules)
    (mentions_put s n (keyval name v ∷ []) enough)

-- ---- the line whose key continues from the path

pub record IsDotted (a : List Part) (r : Reading) (c : Content) : Type 0 where
  pub name : Name
  pub value : Value
  pub content : c ≡ keyval name value
  pub rest : List Part
  pub whole : a ≡ r.body ++ rest
  pub goes : Continues (keys_of name.key) rest
  pub mentioned : SomeOf (IsMentioned is_dotted rest) (keyed_mentions (keys_of name.key) [])

pub dotted_content : (a : List Part) (r : Reading) (before after' : Gap) (comment : Option Written) (c : Content)
    → leads_dotted a r (record { before = before; content = c; after = after'; comment = comment }) ≡ true
    → IsDotted a r c
dotted_content a r before after' comment blank h = absurd cc
dotted_content a r before after' comment (header b k x) h = absurd cc
dotted_content a r before after' comment (element b k x) h = absurd cc
dotted_content a r before after' comment (keyval name v) h =
    let some : SomeOf (IsMentioned is_dotted a) (map (below r.body) (keyed_mentions (keys_of name.key) [])) =
    has_some is_dotted a (map (below r.body) (keyed_mentions (keys_of name.key) [])) h in
    let u = some_unbelow is_dotted r.body a (keyed_mentions (keys_of name.key) []) some in
    record {
      name = name;
      value = v;
      content = refl;
      rest = u.0;
      whole = u.1.0;
      goes = dotted_prefix (keys_of name.key) u.0 u.1.1;
      mentioned = u.1.1;
    }

pub take_through : (pre : List Line) (l : Line) (post : List Line)
    → take (suc (length pre)) (pre ++ l ∷ post) ≡ pre ++ l ∷ []
take_through [] l [] = refl
take_through [] l (x ∷ post) = refl
take_through (x ∷ pre) l post = ap (λ (z : List Line). x ∷ z) (take_through pre l post)

-- What the last line whose key continues from the path tells.
pub record IsDottedLine (s : Document) (a : List Part) (i : ℕ) : Type 0 where
  pub few : suc i ≤ length (lines s)
  pub at_body : (reading_after_lines start (take (suc i) (lines s))).body ≡ (reading_at i (lines s)).body
  pub first : List ℕ
  pub prefix : List (List ℕ)
  pub whole : a ≡ (reading_at i (lines s)).body ++ map key (first ∷ prefix)
  pub doubles : AllOf (IsDoubleOf (lines_mentions start (take (suc i) (lines s))))
      (map (below (reading_at i (lines s)).body) (stops (first ∷ prefix)))
  pub dotted : SomeOf (IsMentioned is_dotted a) (mentions_in s)

pub dotted_line : (s : Document) (a : List Part) (i : ℕ) → last_line (leads_dotted a) start (lines s) ≡ Some i
    → IsDottedLine s a i
dotted_line s a i e =
    let f = last_found (leads_dotted a) start (lines s) i e in
    let r : Reading = reading_after_lines start f.pre in
    let d : IsDotted a r f.here.content =
    dotted_content a r f.here.before f.here.after f.here.comment f.here.content f.passes in
    let g : Continues (keys_of d.name.key) d.rest = d.goes in
    let vs : List Mention = valued_mentions (value (body_fact d.value.body)) (entries_mentions 0 d.value.nested) in
    let prefix : List (List ℕ) = g.first ∷ g.prefix in
    let dots : List Mention = map (below r.body) (stops prefix) in
    let others : List Mention =
    map (below r.body) (map (below (map key prefix)) (keyed_mentions (g.next ∷ g.more) vs)) in
    let line : List Mention = line_mentions r f.here in
    let line_is : line ≡ map (below r.body) (keyed_mentions (keys_of d.name.key) vs) =
    mentions_of r f.here d.name d.value d.content in
    let shape : line ≡ dots ++ others =
    line_is ∙ ap (λ (l : List (List ℕ)). map (below r.body) (keyed_mentions l vs)) g.whole
    ∙ ap (map (below r.body)) (keyed_stops prefix g.next g.more vs)
    ∙ map-append (below r.body) (stops prefix) (map (below (map key prefix)) (keyed_mentions (g.next ∷ g.more) vs)) in
    let taken : take (suc i) (lines s) ≡ f.pre ++ f.here ∷ [] =
    ap (λ (n : ℕ). take (suc n) (lines s)) f.number ∙ ap (λ (l : List Line). take (suc (length f.pre)) l) f.was
    ∙ take_through f.pre f.here f.post in
    let here : reading_at i (lines s) ≡ r =
    ap (λ (n : ℕ). reading_after_lines start (take n (lines s))) f.number
    ∙ ap (λ (l : List Line). reading_after_lines start (take (length f.pre) l)) f.was
    ∙ ap (reading_after_lines start) (take_before f.pre (f.here ∷ f.post)) in
    let mentioned : lines_mentions start (take (suc i) (lines s)) ≡ lines_mentions start f.pre ++ (line ++ []) =
    ap (lines_mentions start) taken ∙ lines_mentions-append start f.pre (f.here ∷ []) in
    let doubles : AllOf (IsDoubleOf (lines_mentions start f.pre ++ (line ++ []))) dots =
    doubles_right (lines_mentions start f.pre) (line ++ []) dots (doubles_left line [] dots
    (subst (λ (l : List Mention). AllOf (IsDoubleOf l) dots) (sym shape)
    (doubles_left dots others dots (doubles_self dots (repeats_below r.body prefix))))) in
    let some : SomeOf (IsMentioned is_dotted a) line =
    subst (λ (l : List Mention). SomeOf (IsMentioned is_dotted a) l) (sym line_is)
    (subst (λ (p : List Part).
    SomeOf (IsMentioned is_dotted p) (map (below r.body) (keyed_mentions (keys_of d.name.key) vs))) (sym d.whole)
    (some_mentioned_below is_dotted r.body d.rest (keyed_mentions (keys_of d.name.key) vs)
    (subst (λ (l : List Mention). SomeOf (IsMentioned is_dotted d.rest) l) (sym (keyed_split (keys_of d.name.key) vs))
    (some_left (IsMentioned is_dotted d.rest) (keyed_mentions (keys_of d.name.key) []) _ d.mentioned)))) in
    record {
      few = omega (arith, f.number, ap (λ (l : List Line). length l) f.was, length-append f.pre (f.here ∷ f.post));
      at_body =
          ap (λ (l : List Line). (reading_after_lines start l).body) taken
          ∙ ap (λ (x : Reading). x.body)
          (reading_append start f.pre (f.here ∷ []) ∙ reading_of r f.here d.name d.value d.content ∙ sym here);
      first = g.first;
      prefix = g.prefix;
      whole = d.whole ∙ ap (λ (l : List Part). r.body ++ l) g.path
          ∙ ap (λ (x : Reading). x.body ++ map key prefix) (sym here);
      doubles =
          subst (λ (x : Reading).
          AllOf (IsDoubleOf (lines_mentions start (take (suc i) (lines s)))) (map (below x.body) (stops prefix)))
          (sym here) (subst (λ (l : List Mention). AllOf (IsDoubleOf l) dots) (sym mentioned) doubles);
      dotted = subst (λ (l : List Line). SomeOf (IsMentioned is_dotted a) (lines_mentions start l)) (sym f.was)
          (subst (SomeOf (IsMentioned is_dotted a)) (sym (lines_mentions-append start f.pre (f.here ∷ f.post)))
          (some_right (IsMentioned is_dotted a) (lines_mentions start f.pre) _
          (some_left (IsMentioned is_dotted a) line _ some)));
    }

dotted_not_alone : (a b c d : Bool) → c ≡ true → (not a && not (b || (c || d))) ≡ false
dotted_not_alone true b c d h = refl
dotted_not_alone false true c d h = refl
dotted_not_alone false false c d h = rw h refl

pub change_there : (s : Document) (path : List Part) (v : Value) (i : ℕ) → item_number path (mentions_in s) ≡ None
    → end_of s (holder path (mentions_in s)) ≡ None
    → last_line (leads_dotted (holder path (mentions_in s))) start (lines s) ≡ Some i
    → (let a : List Part = holder path (mentions_in s) in
    change s (insert path v) ≡ at_line s (suc i) (new_keyval
    (drop (length (reading_at i (lines s)).body) (a ++ drop (length a) path)) v ∷ []))
change_there s path v i no_item ends found =
    rw (no_item, change_insert) (rw (ends, insert_line) (rw (found, insert_line) refl))

-- The keys that are written go on from the line's body: those up to the holder, and the new ones.
module _ (s : Document) (path : List Part) (i : ℕ) (k : List ℕ) (ks : List (List ℕ))
    (line : IsDottedLine s (holder path (mentions_in s)) i)
    (new : path ≡ holder path (mentions_in s) ++ map key (k ∷ ks)) where
  abbrev a : List Part
  a = holder path (mentions_in s)

  abbrev body : List Part
  body = (reading_at i (lines s)).body

  abbrev keys : List (List ℕ)
  keys = line.first ∷ (line.prefix ++ k ∷ ks)

  pub dotted_path : path ≡ body ++ map key keys
  dotted_path =
      new ∙ ap (λ (x : List Part). x ++ map key (k ∷ ks)) line.whole
      ∙ append_assoc body (map key (line.first ∷ line.prefix)) (map key (k ∷ ks))
      ∙ ap (λ (x : List Part). body ++ x) (sym (map-append key (line.first ∷ line.prefix) (k ∷ ks)))

  pub dotted_change : (v : Value) → item_number path (mentions_in s) ≡ None → end_of s a ≡ None
      → last_line (leads_dotted a) start (lines s) ≡ Some i
      → change s (insert path v) ≡ at_line s (suc i) (keyval (name_with keys) v ∷ [])
  dotted_change v no_item ends found =
      let rest : drop (length a) path ≡ map key (k ∷ ks) =
      ap (drop (length a)) new ∙ drop_prefix_parts a (map key (k ∷ ks)) in
      let written : keys_in (drop (length body) (a ++ drop (length a) path)) ≡ keys =
      ap (λ (x : List Part). keys_in (drop (length body) (a ++ x))) rest
      ∙ ap (λ (x : List Part). keys_in (drop (length body) x)) (sym new ∙ dotted_path)
      ∙ ap keys_in (drop_prefix_parts body (map key keys)) ∙ keys_of_map keys in
      change_there s path v i no_item ends found
      ∙ ap (λ (x : List (List ℕ)). at_line s (suc i) (keyval (name_with x) v ∷ [])) written

-- From no refusal: the keyval is put in after the last whose key continues from the holder, and the new document is
-- right.
pub insert_after_dotted : (profile : Profile) (limit : ℕ) (s : Document) (path : List Part) (v : Value) (i : ℕ)
    → refusal profile limit s (insert path v) ≡ None → item_number path (mentions_in s) ≡ None
    → end_of s (holder path (mentions_in s)) ≡ None
    → last_line (leads_dotted (holder path (mentions_in s))) start (lines s) ≡ Some i
    → AllOf (IsKeyText profile) (keys_in path)
    → IsDocument profile s → ObeysRules (marks (mentions_in s)) → IsValue profile v
    → ObeysRules (marks (mentions_of_value v))
    → (c : Changed Document) × ((change s (insert path v) ≡ Some c) × IsSetWhole profile s (insert path v) c)
insert_after_dotted profile limit s path v i granted no_item ends found texts valid obeys value_valid value_obeys =
    let ms : List Mention = mentions_in s in
    let a : List Part = holder path ms in
    let new : IsNewPath path ms = new_path profile limit ms path v no_item granted in
    let k : List ℕ = new.first in
    let ks : List (List ℕ) = new.more in
    let l : IsDottedLine s a i = dotted_line s a i found in
    let body : List Part = (reading_at i (lines s)).body in
    let keys : List (List ℕ) = l.first ∷ (l.prefix ++ k ∷ ks) in
    let whole : path ≡ body ++ map key keys = dotted_path s path i k ks l new.whole in
    let mine : AllOf (IsKeyText profile) keys = later_keys profile body path keys whole texts in
    let o : Option (Changed Document) = at_line s (suc i) (keyval (name_with keys) v ∷ []) in
    let same : change s (insert path v) ≡ o = dotted_change s path i k ks l new.whole v no_item ends found in
    let law : EachTo (IsKeyvalLaw s (body ++ map key keys) v) o =
    dotted_law profile s (suc i) body l.first l.prefix k ks v l.few l.at_body mine
    (subst (λ (x : List Part). list_any (is_at (x ++ key k ∷ [])) ms ≡ false) l.whole new.fresh) l.doubles
    (rules_of_document s obeys) (rules_of_value v value_obeys) in
    let good : EachTo (IsDocument profile) o =
    valid_at_line profile s (suc i) (keyval (name_with keys) v ∷ []) valid
    ((valid_name profile l.first (l.prefix ++ k ∷ ks) mine, value_valid), tt) in
    let plain : is_through_alone a ms ≡ false =
    dotted_not_alone (is_root a) (has is_define a ms || has is_begun a ms) (has is_dotted a ms) (has_fact a ms)
    (some_has is_dotted a ms l.dotted) in (
      _,
      (
        same,
        insert_whole profile s path v _ same no_item plain
            (subst (λ (p : List Part). EachTo (IsKeyvalLaw s p v) o) (sym whole) law) good,
      ),
    )
