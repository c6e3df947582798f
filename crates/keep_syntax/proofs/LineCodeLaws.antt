-- What the code stores of comments, newlines and lines.
--
-- Each function of the code has a definition of what it reads and stores (`CommentRead`, `NewlineRead`, and `line_at`
-- for a line). The first byte tells what a gap scan finds there: `#` a comment, a line feed a newline, `\r` and a line
-- feed a newline of two bytes. A line is put together of its white space, its content and its comment: their growths
-- are joined, and the statement gets its end, which is known only now (`stated_is`).
--
-- Theorems: `some_comment`, `some_newline`, `line_blank` and `line_is`, one for each way that a call returns.
use Rattle.std.proofs.Common.{◌≡◌, ℕ, ◌+◌, ◌<◌, ◌==◌, ◌&&◌, true, false, List, [], ◌∷◌, length, get_or, drop, Option}
use Rattle.std.proofs.Common.{Some, None, Result, Ok, Err, inl, inr, refl, sym, ap, ◌∙◌, subst, arith, IsCharBoundary}
use Rattle.std.proofs.lemmas.List.{append-nil, get_or-drop}
use Rattle.std.specs.List.{prefix_len}
use Rattle.keep_types.specs.declared.leaf.Leaf.{Leaf}
use Rattle.keep_types.specs.declared.leaf.Leaf.TheVariants as leaf
use Rattle.keep_types.specs.declared.leaf.Profile.{Profile}
use Rattle.keep_token.specs.Scanning.{first, gap_at, moved}
use Rattle.keep_token.specs.Abnf.{is_comment, is_ws}
use Rattle.keep_token.proofs.Shared.{tested}
use Rattle.keep_syntax.specs.declared.fault.ReadFault.{ReadFault}
use Rattle.keep_types.specs.declared.syntax.Start.{Start}
use Rattle.keep_types.specs.declared.syntax.Statement.{Statement}
use Rattle.keep_types.specs.declared.syntax.Owner.TheVariants as owner
use Rattle.keep_syntax.specs.declared.line.Head.{Head}
use Rattle.keep_types.specs.declared.syntax.StatementKind.TheVariants.{KeyVal, Header, Element}
use Rattle.keep_syntax.specs.Tree.{Written, Gap, Content, blank, keyval, header, element, Line, content_leaves}
use Rattle.keep_syntax.specs.Tree.{line_leaves}
use Rattle.keep_syntax.specs.Numbered.{width, span, key_count, content_parts, content_values, Count, line_start}
use Rattle.keep_syntax.specs.Numbered.{line_statements}
use Rattle.keep_syntax.specs.Reading.{Bad, written, space_at, is_line_end, content_at, after_of, comment_at, line_at}
use Rattle.keep_syntax_store.specs.Flat.{Flat, with_token}
use Rattle.keep_syntax.specs.Growth.{Taken, Grows, Fails, IsSyntax, PunctuationRead, SpaceRead}
use Rattle.keep_syntax_store.specs.Rereading.{count_at}
use Rattle.keep_syntax.specs.FlatLines.{content_head, content_taken, ContentIs, CommentRead, line_taken, LineIs}
use Rattle.keep_syntax.specs.FlatLines.{newline_by, NewlineRead}
use Rattle.keep_syntax.proofs.LoopLaws.{done, ok_is}
use Rattle.keep_syntax.proofs.GrowthLaws.{same_taken, grows_nothing, grows_then, grows_as}
use Rattle.keep_syntax.proofs.GapCodeLaws.{moved_some, moved_none, moved_kind, first-drop, after_leaf, leaf_grows}
use Rattle.keep_syntax.proofs.GapCodeLaws.{fails_bad, fails_memory, fails_through}

-- ---- a comment

hash_at : (text : List ℕ) → first text ≡ 0x23
    → gap_at text ≡ Some (leaf.Comment, 1 + prefix_len is_comment (drop 1 text))
unfolding gap_at
hash_at text e = rw e refl

comment_other : (text : List ℕ) → (first text == 0x23) ≡ false → comment_at text ≡ (None, text)
unfolding comment_at gap_at
comment_other text other =
    elim (tested (is_ws (first text))) [
      | inl e ↦ rw e refl
      | inr e ↦ elim (tested (first text == 0x0A)) [
        | inl f ↦ rw (e, f) refl
        | inr f ↦ elim (tested (first text == 0x0D && get_or text 1 0 == 0x0A)) [
          | inl g ↦ rw (e, f, g) refl
          | inr g ↦ rw (e, f, g, other) refl
        ]
      ]
    ]

comment_nothing : (text : List ℕ) → gap_at text ≡ None → comment_at text ≡ (None, text)
unfolding comment_at
comment_nothing text e = rw e refl

comment_some : (text : List ℕ) (n : ℕ) → gap_at text ≡ Some (leaf.Comment, n)
    → comment_at text ≡ (Some (written leaf.Comment n text), drop n text)
unfolding comment_at
comment_some text n e = rw e refl

no_comment : (text : List ℕ) (at : ℕ) (f : Flat) → IsCharBoundary text at
    → comment_at (drop at text) ≡ (None, drop at text) → CommentRead text at f f (Ok at)
no_comment text at f bound e =
    record { part = None; bound = bound; forward = omega arith; is_read = ap done e; grows = grows_nothing text f at }

pub other_comment : (text : List ℕ) (at : ℕ) (f : Flat) → IsCharBoundary text at → (get_or text at 0 == 0x23) ≡ false
    → CommentRead text at f f (Ok at)
other_comment text at f bound other =
    no_comment text at f bound (comment_other (drop at text) (rw (first-drop text at) other))

pub comment_kind : (text : List ℕ) (at : ℕ) (l : Leaf) (end : ℕ) → get_or text at 0 ≡ 0x23
    → Some (l, end) ≡ moved at (gap_at (drop at text)) → Some (leaf.Comment, end) ≡ moved at (gap_at (drop at text))
comment_kind text at l end is e =
    moved_kind at (1 + prefix_len is_comment (drop 1 (drop at text))) (gap_at (drop at text)) leaf.Comment l end
    (hash_at (drop at text) (first-drop text at ∙ is)) e

pub none_comment : (text : List ℕ) (at : ℕ) (f : Flat) → IsCharBoundary text at
    → None ≡ moved at (gap_at (drop at text)) → CommentRead text at f f (Ok at)
none_comment text at f bound e =
    no_comment text at f bound (comment_nothing (drop at text) (moved_none at (gap_at (drop at text)) e))

pub some_comment : (text : List ℕ) (at : ℕ) (old new : Flat) (end : ℕ) → IsCharBoundary text at
    → IsCharBoundary text end → Some (leaf.Comment, end) ≡ moved at (gap_at (drop at text))
    → new ≡ with_token leaf.Comment at old → CommentRead text at old new (Ok end)
some_comment text at old new end bound bound' e is =
    let m = moved_some at (gap_at (drop at text)) leaf.Comment end e in
    let n = m.0 in
    let w = written leaf.Comment n (drop at text) in
    record {
      part = Some w;
      bound = bound';
      forward = omega (arith, m.2);
      is_read =
          ap done (comment_some (drop at text) n m.1 ∙ ap (λ (t : List ℕ). (Some w, t)) (after_leaf text at n end m.2));
      grows = leaf_grows text at n end leaf.Comment old new m.2 bound'.0 bound is;
    }

-- ---- a newline

newline_one : (text : List ℕ) → first text ≡ 0x0A → gap_at text ≡ Some (leaf.Newline, 1)
unfolding gap_at
newline_one text e = rw e refl

newline_two : (text : List ℕ) → first text ≡ 0x0D → get_or text 1 0 ≡ 0x0A → gap_at text ≡ Some (leaf.Newline, 2)
unfolding gap_at
newline_two text e f = rw (e, f) refl

newline_other : (text : List ℕ) → (first text == 0x0A) ≡ false → (first text == 0x0D && get_or text 1 0 == 0x0A) ≡ false
    → newline_by text (gap_at text) ≡ Err Bad
unfolding gap_at
newline_other text e f =
    elim (tested (is_ws (first text))) [
      | inl g ↦ rw g refl
      | inr g ↦ elim (tested (first text == 0x23)) [
        | inl h ↦ rw (g, e, f, h) refl
        | inr h ↦ rw (g, e, f, h) refl
      ]
    ]

second-drop : (text : List ℕ) (at : ℕ) → get_or (drop at text) 1 0 ≡ get_or text (at + 1) 0
second-drop text at = get_or-drop at text 1 0

pub other_newline : (text : List ℕ) (at : ℕ) (f : Flat) (e : ReadFault) → (get_or text at 0 == 0x0A) ≡ false
    → (get_or text at 0 == 0x0D && get_or text (at + 1) 0 == 0x0A) ≡ false → IsSyntax e
    → NewlineRead text at f f (Err e)
other_newline text at f e one two fault =
    fails_bad text e (newline_by (drop at text) (gap_at (drop at text))) fault
    (newline_other (drop at text) (rw (first-drop text at) one) (rw (first-drop text at, second-drop text at) two))

pub some_newline : (text : List ℕ) (at : ℕ) (old new : Flat) (end : ℕ) → at < end → IsCharBoundary text at
    → IsCharBoundary text end → Some (leaf.Newline, end) ≡ moved at (gap_at (drop at text))
    → new ≡ with_token leaf.Newline at old → NewlineRead text at old new (Ok end)
some_newline text at old new end lt bound bound' e is =
    let m = moved_some at (gap_at (drop at text)) leaf.Newline end e in
    let n = m.0 in
    let w = written leaf.Newline n (drop at text) in
    record {
      part = w;
      bound = bound';
      forward = omega arith;
      is_read = ap (newline_by (drop at text)) m.1 ∙ ap (λ (t : List ℕ). done (w, t)) (after_leaf text at n end m.2);
      grows = leaf_grows text at n end leaf.Newline old new m.2 bound'.0 bound is;
    }

newline_by_len : (text : List ℕ) (at len : ℕ) (old new : Flat) (r : Result ℕ ReadFault)
    → gap_at (drop at text) ≡ Some (leaf.Newline, len) → 0 < len → PunctuationRead text at len leaf.Newline old new r
    → NewlineRead text at old new r
newline_by_len text at len old new (Err e) found some memory =
    fails_memory text e (newline_by (drop at text) (gap_at (drop at text))) memory
newline_by_len text at len old new (Ok end) found some p =
    some_newline text at old new end (omega (arith, p.end_is)) p.start p.bound (rw (found, p.end_is) refl) p.stored

pub newline_1 : (text : List ℕ) (at : ℕ) (old new : Flat) (r : Result ℕ ReadFault) → get_or text at 0 ≡ 0x0A
    → PunctuationRead text at 1 leaf.Newline old new r → NewlineRead text at old new r
newline_1 text at old new r e p =
    newline_by_len text at 1 old new r (newline_one (drop at text) (first-drop text at ∙ e)) (omega arith) p

pub newline_2 : (text : List ℕ) (at : ℕ) (old new : Flat) (r : Result ℕ ReadFault) → get_or text at 0 ≡ 0x0D
    → get_or text (at + 1) 0 ≡ 0x0A → PunctuationRead text at 2 leaf.Newline old new r → NewlineRead text at old new r
newline_2 text at old new r e f p =
    newline_by_len text at 2 old new r (newline_two (drop at text) (first-drop text at ∙ e) (second-drop text at ∙ f))
    (omega arith) p

-- ---- a line

pub line_fails : (profile : Profile) (depth_left : ℕ) (text : List ℕ) (at begin : ℕ) (old new : Flat) (e : ReadFault)
    → SpaceRead text at old new (Ok begin) → Fails text e (content_at profile depth_left (drop begin text))
    → Fails text e (line_at profile depth_left (drop at text))
unfolding line_at
line_fails profile depth_left text at begin old new e s k =
    fails_through text e (content_at profile depth_left (drop begin text)) (line_at profile depth_left (drop at text))
    (λ f h. rw (ok_is (space_at (drop at text)) (s.part, drop begin text) s.is_read, h) refl) k

line_reads : (profile : Profile) (depth_left : ℕ) (text : List ℕ) (at begin close after end : ℕ) (g a : Gap)
    (c : Content) (k : Option Written) → space_at (drop at text) ≡ (g, drop begin text)
    → content_at profile depth_left (drop begin text) ≡ Ok (c, drop close text)
    → after_of c (drop close text) ≡ (a, drop after text) → comment_at (drop after text) ≡ (k, drop end text)
    → line_at profile depth_left (drop at text)
    ≡ Ok (record { before = g; content = c; after = a; comment = k }, drop end text)
unfolding line_at
line_reads profile depth_left text at begin close after end g a c k e1 e2 e3 e4 = rw (e1, e2, e3, e4) refl

pub blank_content : (profile : Profile) (depth_left : ℕ) (text : List ℕ) (at : ℕ)
    → is_line_end (get_or text at 0) ≡ true → content_at profile depth_left (drop at text) ≡ Ok (blank, drop at text)
unfolding content_at
blank_content profile depth_left text at e = rw (first-drop text at, e) refl

-- a line without a keyval or a header
pub line_blank : (profile : Profile) (depth_left : ℕ) (text : List ℕ) (at begin end : ℕ) (old f1 new : Flat)
    → SpaceRead text at old f1 (Ok begin) → is_line_end (get_or text begin 0) ≡ true
    → CommentRead text begin f1 new (Ok end) → LineIs profile depth_left text at old new end None
line_blank profile depth_left text at begin end old f1 new s e k =
    let l : Line = record { before = s.part; content = blank; after = []; comment = k.part } in
    record {
      read = record {
        part = l;
        bound = k.bound;
        forward = omega (arith, s.forward, k.forward);
        is_read =
            line_reads profile depth_left text at begin begin begin end s.part [] blank k.part
            (ok_is (space_at (drop at text)) (s.part, drop begin text) s.is_read)
            (blank_content profile depth_left text begin e) refl
            (ok_is (comment_at (drop begin text)) (k.part, drop end text) k.is_read);
        grows = grows_then s.grows k.grows;
      };
      stated = refl;
    }

-- white space may follow what is not blank
pub after_space : (p : Start) (c : Content) (h : Head) (text : List ℕ) → content_head p c ≡ Some h
    → after_of c text ≡ space_at text
after_space p blank h text e = absurd cc
after_space p (keyval name value) h text e = refl
after_space p (header before key after) h text e = refl
after_space p (element before key after) h text e = refl

abbrev pub stated_by : Head → ℕ → ℕ → ℕ → ℕ → ℕ → Statement
stated_by h begin close at end parts =
    record {
      kind = h.kind;
      span = span begin close;
      line = span at end;
      first_key = parts;
      keys = h.keys;
      value = h.value;
    }

-- the statement of a line with this content
stated_is : (p : Start) (c : Content) (h : Head) (n : Count) (g a : Gap) (k : Option Written) (begin close end : ℕ)
    → content_head p c ≡ Some h → begin ≡ n.at + width g → close ≡ begin + width (content_leaves c)
    → p.values ≡ n.values
    → stated_by h begin close n.at end n.parts ∷ []
    ≡ line_statements n (record { before = g; content = c; after = a; comment = k }) end
stated_is p blank h n g a k begin close end e e1 e2 e3 = absurd cc
stated_is p (keyval name value) h n g a k begin close end e e1 e2 e3 =
    let w = width (content_leaves (keyval name value)) in
    let head : ℕ → Head = λ v. record { kind = KeyVal; keys = key_count name.key; value = Some v } in
    let is : head p.values ≡ h = cc in
    let stated : ℕ → ℕ → Head → List Statement = λ b x q. stated_by q b x n.at end n.parts ∷ [] in
    ap (stated begin close) (sym is) ∙ ap (λ (x : ℕ). stated begin x (head p.values)) e2
    ∙ ap (λ (b : ℕ). stated b (b + w) (head p.values)) e1
    ∙ ap (λ (v : ℕ). stated (n.at + width g) ((n.at + width g) + w) (head v)) e3
stated_is p (header before key after) h n g a k begin close end e e1 e2 e3 =
    let w = width (content_leaves (header before key after)) in
    let head : Head = record { kind = Header; keys = key_count key; value = None } in
    let is : head ≡ h = cc in
    let stated : ℕ → ℕ → Head → List Statement = λ b x q. stated_by q b x n.at end n.parts ∷ [] in
    ap (stated begin close) (sym is) ∙ ap (λ (x : ℕ). stated begin x head) e2 ∙ ap (λ (b : ℕ). stated b (b + w) head) e1
stated_is p (element before key after) h n g a k begin close end e e1 e2 e3 =
    let w = width (content_leaves (element before key after)) in
    let head : Head = record { kind = Element; keys = key_count key; value = None } in
    let is : head ≡ h = cc in
    let stated : ℕ → ℕ → Head → List Statement = λ b x q. stated_by q b x n.at end n.parts ∷ [] in
    ap (stated begin close) (sym is) ∙ ap (λ (x : ℕ). stated begin x head) e2 ∙ ap (λ (b : ℕ). stated b (b + w) head) e1

-- where the content of a line begins, after what is stored
abbrev pub start_of : ℕ → Flat → Start
start_of begin old =
    record {
      at = begin;
      values = length old.values;
      parts = length old.keys;
      owner = owner.Line (length old.statements);
      depth = 0;
      comma = None;
    }

pub line_is : (profile : Profile) (depth_left : ℕ) (text : List ℕ) (at begin close after end : ℕ)
    (old f1 f2 f3 new : Flat) (p : Start) (h : Head) → SpaceRead text at old f1 (Ok begin)
    → p ≡ start_of begin old → ContentIs profile depth_left text p f1 f2 close h
    → SpaceRead text close f2 f3 (Ok after) → CommentRead text after f3 new (Ok end)
    → LineIs profile depth_left text at old new end (Some (stated_by h begin close at end (length old.keys)))
line_is profile depth_left text at begin close after end old f1 f2 f3 new p h s pe con a k =
    let n = count_at at old in
    let r = con.read in
    let c = r.part in
    let l : Line = record { before = s.part; content = c; after = a.part; comment = k.part } in
    let pat : p.at ≡ begin = ap (λ (q : Start). q.at) pe in
    let ps : p ≡ line_start n l = pe ∙ ap (λ (m : ℕ). start_of m old) s.grows.place in
    let grown : Grows text f1 f2 begin close (content_taken p c) =
    subst (λ (m : ℕ). Grows text f1 f2 m close (content_taken p c)) pat r.grows in
    let g = grows_then s.grows (grows_then grown (grows_then a.grows k.grows)) in
    let taken : Start → Taken =
    λ q. record { leaves = line_leaves l; statements = []; keys = content_parts q.at c; values = content_values q c } in
    record {
      read = record {
        part = l;
        bound = k.bound;
        forward = omega (arith, s.forward, pat, r.forward, a.forward, k.forward);
        is_read =
            line_reads profile depth_left text at begin close after end s.part a.part c k.part
            (ok_is (space_at (drop at text)) (s.part, drop begin text) s.is_read)
            (ap (λ (m : ℕ). content_at profile depth_left (drop m text)) (sym pat) ∙ r.is_read)
            (after_space p c h (drop close text) con.stated
            ∙ ok_is (space_at (drop close text)) (a.part, drop after text) a.is_read)
            (ok_is (comment_at (drop after text)) (k.part, drop end text) k.is_read);
        grows = grows_as (line_taken n l)
            (same_taken _ (taken p) refl refl (append-nil (content_parts p.at c)) (append-nil (content_values p c))
            ∙ ap taken ps) g;
      };
      stated =
          stated_is p c h n s.part a.part k.part begin close end con.stated s.grows.place
          (omega (arith, r.grows.place, pat)) (ap (λ (q : Start). q.values) pe);
    }
