-- Where a new section is put in, its header may be there.
--
-- The new header comes after the body of the last line that leads through the path. Two things have to be known for its
-- mentions to be allowed there. The way to it is read from there on as it was in that line (`through_prefix`,
-- `way_stays` of other files). And nothing at the path refuses a definition (`all_let`): no header defines it and no
-- dots lead to it, as the searches before this one found nothing. The hard part is that no value is above the path:
-- `never_held`, since a header that goes through it mentions each prefix of it that ends in a key, and a value there
-- would be beside such a mention.
--
-- Theorems: `section_at`: where the section is put in, its header is allowed; `end_after`: where the body of a header
-- ends; `way_of`: the way of a header to a path that it goes through.
use Rattle.std.proofs.Common.{◌≡◌, ℕ, suc, ◌+◌, Bool, true, false, not, ◌&&◌, List, [], ◌∷◌, ◌++◌, length, map, take}
use Rattle.std.proofs.Common.{drop, refl, sym, ap, subst, ◌∙◌, append_assoc, length-append, arith, Option, Some, None}
use Rattle.std.proofs.Common.{◌⊎◌, inl, inr}
use Rattle.std.proofs.lemmas.Bool.{and_parts}
use Rattle.std.proofs.lemmas.List.{length-map}
use Rattle.keep_syntax.specs.Tree.{Written, Gap, Content, blank, keyval, header, element, Line, Document}
use Rattle.keep_path.specs.Path.{Part, index}
use Rattle.keep_meaning.specs.Marks.{MentionKind, through, define, begun, passed, Mention, Reading, start, header_path}
use Rattle.keep_meaning.specs.Marks.{header_prefixes, elements_of}
use Rattle.keep_meaning.specs.Marks as marks_of
use Rattle.keep_meaning.specs.Meaning.{keys_of, line_mentions, lines_mentions, after_line, reading_after_lines, lines}
use Rattle.keep_meaning.specs.Meaning.{line_of, mentions_in}
use Rattle.keep_meaning.specs.Nodes.{has, is_through, is_define, is_dotted}
use Rattle.keep_edit_spec.specs.Look.{strip, keys_in}
use Rattle.keep_edit_spec.specs.Lines.{last_line, is_header, begins, leads_through, leads_dotted, body_length, body_end}
use Rattle.keep_edit_spec.proofs.Common.Runs.{AllOf, SomeOf, Rules, Allowed, kinds_allow, solid, exclusive, all_left}
use Rattle.keep_edit_spec.proofs.Common.Runs.{all_right, all_join, all_map, some_left, some_right, strip-append}
use Rattle.keep_edit_spec.proofs.Common.SetLaw.{IsSolidAt}
use Rattle.keep_edit_spec.proofs.Common.LineLaws.{Reaches, header_closed, never_root, lines_mentions-append}
use Rattle.keep_edit_spec.proofs.Common.BodyEnd.{IsLast, beyond, beyond_is, last_found, body_few, reading_beyond}
use Rattle.keep_edit_spec.proofs.Common.BodyEnd.{drop_after}
use Rattle.keep_edit_spec.proofs.Common.Doubles.{IsMentioned, IsDoubleOf, has_some, doubles_left, doubles_right}
use Rattle.keep_edit_spec.proofs.Common.Doubles.{doubles_self}
use Rattle.keep_edit_spec.proofs.Common.ValueThere.{IsSome, IsNotAlone, not_alone_prefixes, some_cases}
use Rattle.keep_edit_spec.proofs.Remove.RemoveRefusal.{IsShared, no_both}
use Rattle.keep_edit_spec.proofs.Remove.RemoveSection.{body_is}
use Rattle.keep_edit_spec.proofs.Insert.InsertDotted.{mentioned_before}
use Rattle.keep_edit_spec.proofs.Insert.SectionLaw.{IsSectionPlace, after_free}
use Rattle.keep_edit_spec.proofs.Common.TableThere.{some_begins}
use Rattle.keep_edit_spec.proofs.Common.ThroughAlone.{meets, all_meet, none_mentioned, IsHeldIn, dotted_lines}
use Rattle.keep_edit_spec.proofs.Insert.HeaderPrefixes.{IsLonger, LeadsThrough, through_prefix, way_stays, path_keys}
use Rattle.keep_edit_spec.proofs.Insert.HeaderPrefixes.{way_again}

-- ---- a value above a path that a header goes through

abbrev firm : MentionKind → Bool
firm a = solid a && not (exclusive a)

firm_many : (b c : Bool) → (b && not c) ≡ true → c ≡ true → ⊥
firm_many true true h g = absurd cc
firm_many true false h g = absurd cc
firm_many false c h g = absurd cc

shared_firm : IsShared firm
shared_firm =
    record {
      firm = λ a h. (and_parts (solid a) (not (exclusive a)) h).0;
      many = λ a h g. firm_many (solid a) (exclusive a) h g;
    }

is_firm : (a : MentionKind) → solid a ≡ true → exclusive a ≡ false → firm a ≡ true
is_firm a s e = rw (s, e) refl

firm_at : (p : List Part) (ms : List Mention) → AllOf IsNotAlone ms → SomeOf (IsSolidAt p) ms
    → SomeOf (IsMentioned firm p) ms
firm_at p [] h s = s
firm_at p (m ∷ ms) h (inl s) = inl (s.path, is_firm m.kind s.kind h.0)
firm_at p (m ∷ ms) h (inr s) = inr (firm_at p ms h.1 s)

through_firm : (a : MentionKind) → is_through a ≡ true → firm a ≡ true
through_firm through h = refl
through_firm other h = absurd cc

some_firm : (p : List Part) (ms : List Mention) → SomeOf (IsMentioned is_through p) ms → SomeOf (IsMentioned firm p) ms
some_firm p [] s = s
some_firm p (m ∷ ms) (inl s) = inl (s.0, through_firm m.kind s.1)
some_firm p (m ∷ ms) (inr s) = inr (some_firm p ms s)

never_held : (tables : List (List Part)) (a : List Part) (f : List ℕ) (fs : List (List ℕ)) (ms : List Mention)
    → a ≡ header_path tables [] (f ∷ fs)
    → ((p : List Part) → SomeOf (IsMentioned firm p) (header_prefixes tables [] (f ∷ fs))
    → SomeOf (IsMentioned firm p) ms)
    → SomeOf (IsMentioned is_through a) ms → Rules ms → IsHeldIn a ms → ⊥
never_held tables a f fs ms e carry goes rules held =
    let p : List Part = held.path in
    let reach : Reaches p (header_path tables [] (f ∷ fs)) =
    (held.rest, ap (strip p) (sym e ∙ held.whole) ∙ strip-append p held.rest) in
    elim ((header_closed tables p [] fs f through refl held.ends).path reach) [
      | inr root ↦ never_root p held.ends root
      | inl solid_there ↦
          (let prefixes : List Mention = header_prefixes tables [] (f ∷ fs) in
          let end : List Mention = record { path = header_path tables [] (f ∷ fs); kind = through } ∷ [] in
          let here : SomeOf (IsMentioned firm p) (prefixes ++ end) =
          firm_at p (prefixes ++ end) (all_join IsNotAlone prefixes end (not_alone_prefixes tables [] (f ∷ fs)) (
            refl,
            tt,
          )) solid_there in
          let there : SomeOf (IsMentioned firm p) ms = elim (some_cases (IsMentioned firm p) prefixes end here) [
            | inl w ↦ carry p w
            | inr t ↦
                (elim t [
                  | inl h ↦
                      some_firm p ms (subst (λ (q : List Part). SomeOf (IsMentioned is_through q) ms) (e ∙ h.0) goes)
                  | inr none ↦ absurd none
                ])
          ] in
          no_both firm shared_firm p ms there held.alone rules)
    ]

-- ---- the line of the header

pub record IsThroughLine (a : List Part) (r : Reading) (l : Line) : Type 0 where
  pub keys : List (List ℕ)
  pub tail : List Mention
  pub mentioned : line_mentions r l ≡ header_prefixes r.tables [] keys ++ tail
  pub goes : SomeOf (IsMentioned is_through a) (header_prefixes r.tables [] keys)
  pub tables : ((after_line r l).tables ≡ r.tables)
      ⊎ ((after_line r l).tables ≡ r.tables ++ header_path r.tables [] keys ∷ [])

through_content : (a : List Part) (r : Reading) (before after : Gap) (comment : Option Written) (c : Content)
    → (let l : Line = record { before = before; content = c; after = after; comment = comment } in
    is_header c ≡ true → SomeOf (IsMentioned is_through a) (line_mentions r l) → IsThroughLine a r l)
through_content a r before after comment blank h s = absurd s
through_content a r before after comment (keyval name v) h s = absurd cc
through_content a r before after comment (header b k x) h s =
    let keys : List (List ℕ) = keys_of k in
    elim (some_cases (IsMentioned is_through a) (header_prefixes r.tables [] keys) _ s) [
      | inl w ↦
          record {
            keys = keys;
            tail = record { path = header_path r.tables [] keys; kind = define } ∷ [];
            mentioned = refl;
            goes = w;
            tables = inl refl;
          }
      | inr t ↦ (elim t [ inl d ↦ (let no : is_through define ≡ true = d.1 in absurd cc) | inr none ↦ absurd none ])
    ]
through_content a r before after comment (element b k x) h s =
    let keys : List (List ℕ) = keys_of k in
    let at : List Part = header_path r.tables [] keys in
    elim (some_cases (IsMentioned is_through a) (header_prefixes r.tables [] keys) _ s) [
      | inl w ↦
          record {
            keys = keys;
            tail = record { path = at; kind = marks_of.element }
                ∷ record { path = at ++ index (elements_of at r.tables) ∷ []; kind = begun } ∷ [];
            mentioned = refl;
            goes = w;
            tables = inr refl;
          }
      | inr t ↦ (elim t [
        | inl d ↦ (let no : is_through marks_of.element ≡ true = d.1 in absurd cc)
        | inr u ↦ (elim u [ inl d ↦ (let no : is_through begun ≡ true = d.1 in absurd cc) | inr none ↦ absurd none ])
      ])
    ]

through_line : (a : List Part) (r : Reading) (l : Line) → leads_through a r l ≡ true → IsThroughLine a r l
through_line a r l e =
    let (head, goes) = and_parts (is_header l.content) (has is_through a (line_mentions r l)) e in
    through_content a r l.before l.after l.comment l.content head (has_some is_through a (line_mentions r l) goes)

-- ---- what is at the path lets a header define it

silent : (a : MentionKind) → meets a ≡ true → is_define a ≡ false → is_dotted a ≡ false
    → (kinds_allow a define ≡ true) × (kinds_allow define a ≡ true)
silent through m d o = (refl, refl)
silent begun m d o = (refl, refl)
silent passed m d o = (refl, refl)
silent other m d o = absurd cc

abbrev pub Lets : List Part → Mention → Type 0
Lets a x = x.path ≡ a → (kinds_allow x.kind define ≡ true) × (kinds_allow define x.kind ≡ true)

all_let : (a : List Part) (ms : List Mention) → AllOf (λ (x : Mention). x.path ≡ a → meets x.kind ≡ true) ms
    → AllOf (λ (x : Mention). x.path ≡ a → is_define x.kind ≡ false) ms
    → AllOf (λ (x : Mention). x.path ≡ a → is_dotted x.kind ≡ false) ms → AllOf (Lets a) ms
all_let a [] m d o = tt
all_let a (x ∷ ms) m d o = ((λ e. silent x.kind (m.0 e) (d.0 e) (o.0 e)), all_let a ms m.1 d.1 o.1)

-- ---- the lines up to the end of the body

take_beyond : (pre : List Line) (l : Line) (post : List Line) (m : ℕ)
    → take (beyond pre m) (pre ++ l ∷ post) ≡ pre ++ l ∷ take m post
take_beyond [] l post m = refl
take_beyond (x ∷ pre) l post m = ap (λ (z : List Line). x ∷ z) (take_beyond pre l post m)

drop_beyond : (pre : List Line) (l : Line) (post : List Line) (m : ℕ)
    → drop (beyond pre m) (pre ++ l ∷ post) ≡ drop m post
drop_beyond [] l post m = refl
drop_beyond (x ∷ pre) l post m = drop_beyond pre l post m

-- Where the body ends of the header in line i.
pub record IsEndAfter (ls : List Line) (i : ℕ) (pre : List Line) (here : Line) (post : List Line) : Type 0 where
  pub number : body_end i ls ≡ suc (length pre) + body_length post
  pub taken : take (body_end i ls) ls ≡ pre ++ here ∷ take (body_length post) post
  pub dropped : drop (body_end i ls) ls ≡ drop (body_length post) post

pub end_after : (ls : List Line) (i : ℕ) (pre : List Line) (here : Line) (post : List Line) → ls ≡ pre ++ here ∷ post
    → i ≡ length pre → IsEndAfter ls i pre here post
end_after ls i pre here post was at =
    let m : ℕ = body_length post in
    let after : drop (suc i) ls ≡ post =
    ap (λ (k : ℕ). drop (suc k) ls) at ∙ ap (λ (l : List Line). drop (suc (length pre)) l) was
    ∙ drop_after pre here post in
    let same : body_end i ls ≡ suc (length pre) + m =
    ap (λ (k : ℕ). suc k + body_length (drop (suc i) ls)) at
    ∙ ap (λ (l : List Line). suc (length pre) + body_length l) after in
    let number : body_end i ls ≡ beyond pre m = same ∙ beyond_is pre m in
    record {
      number = same;
      taken = ap (λ (k : ℕ). take k ls) number ∙ ap (take (beyond pre m)) was ∙ take_beyond pre here post m;
      dropped = ap (λ (k : ℕ). drop k ls) number ∙ ap (drop (beyond pre m)) was ∙ drop_beyond pre here post m;
    }

-- ---- the way of a header to a path that it goes through

-- From the header on, the same keys lead the same way to the path.
pub record IsWayOf (a : List Part) (r : Reading) (l : Line) : Type 0 where
  pub first : List ℕ
  pub prefix : List (List ℕ)
  pub path : a ≡ header_path r.tables [] (first ∷ prefix)
  pub path_later : header_path (after_line r l).tables [] (first ∷ prefix) ≡ header_path r.tables [] (first ∷ prefix)
  pub way_later : header_prefixes (after_line r l).tables [] (first ∷ prefix)
      ≡ header_prefixes r.tables [] (first ∷ prefix)
  pub others : List Mention
  pub said : line_mentions r l ≡ header_prefixes r.tables [] (first ∷ prefix) ++ others
  pub goes : SomeOf (IsMentioned is_through a) (line_mentions r l)

pub way_of : (a : List Part) (r : Reading) (l : Line) → leads_through a r l ≡ true → IsWayOf a r l
way_of a r l passes =
    let t : IsThroughLine a r l = through_line a r l passes in
    let g : LeadsThrough r.tables [] t.keys a = through_prefix r.tables [] t.keys a t.goes in
    let keys : List (List ℕ) = g.first ∷ g.prefix in
    let to : Reading = after_line r l in
    let prefixes : List Mention = header_prefixes r.tables [] keys in
    let long : IsLonger (header_path r.tables [] keys) (header_path r.tables [] t.keys) =
    subst (λ (q : List Part). IsLonger q (header_path r.tables [] t.keys)) g.path g.longer in
    let stays : (header_path to.tables [] keys ≡ header_path r.tables [] keys)
    × (header_prefixes to.tables [] keys ≡ prefixes) = elim t.tables [
      | inl same ↦ (
        ap (λ (x : List (List Part)). header_path x [] keys) same,
        ap (λ (x : List (List Part)). header_prefixes x [] keys) same,
      )
      | inr more ↦
          (let w = way_stays r.tables (header_path r.tables [] t.keys) [] g.first g.prefix long in (
            ap (λ (x : List (List Part)). header_path x [] keys) more
                ∙ w.0,
            ap (λ (x : List (List Part)). header_prefixes x [] keys) more ∙ w.1,
          ))
    ] in
    record {
      first = g.first;
      prefix = g.prefix;
      path = g.path;
      path_later = stays.0;
      way_later = stays.1;
      others = g.others ++ t.tail;
      said = t.mentioned ∙ ap (λ (l : List Mention). l ++ t.tail) g.prefixes ∙ append_assoc prefixes g.others t.tail;
      goes = subst (SomeOf (IsMentioned is_through a)) (sym t.mentioned)
          (some_left (IsMentioned is_through a) (header_prefixes r.tables [] t.keys) t.tail t.goes);
    }

-- What the last line whose header goes through the path tells.
pub record IsSection (s : Document) (a : List Part) (n : ℕ) : Type 0 where
  pub first : List ℕ
  pub prefix : List (List ℕ)
  pub keys : keys_in a ≡ first ∷ prefix
  pub place : IsSectionPlace s n a (first ∷ prefix)
  pub lets : AllOf (Lets a) (mentions_in s)
  pub goes : SomeOf (IsMentioned is_through a) (mentions_in s)
  pub path : List (List Part)
  pub whole : a ≡ header_path path [] (first ∷ prefix)

pub section_at : (s : Document) (a : List Part) (i : ℕ) → Rules (mentions_in s)
    → last_line (begins a) start (lines s) ≡ None → last_line (leads_dotted a) start (lines s) ≡ None
    → last_line (leads_through a) start (lines s) ≡ Some i → IsSection s a (body_end i (lines s))
section_at s a i rules no_body no_dots e =
    let f : IsLast (leads_through a) start (lines s) i = last_found (leads_through a) start (lines s) i e in
    let ms : List Mention = mentions_in s in
    let r : Reading = reading_after_lines start f.pre in
    let g : IsWayOf a r f.here = way_of a r f.here f.passes in
    let keys : List (List ℕ) = g.first ∷ g.prefix in
    let r1 : Reading = after_line r f.here in
    let prefixes : List Mention = header_prefixes r.tables [] keys in
    let m : ℕ = body_length f.post in
    let n : ℕ = body_end i (lines s) in
    let cut : IsEndAfter (lines s) i f.pre f.here f.post = end_after (lines s) i f.pre f.here f.post f.was f.number in
    let same : n ≡ suc (length f.pre) + m = cut.number in
    let taken : take n (lines s) ≡ f.pre ++ f.here ∷ take m f.post = cut.taken in
    let dropped : drop n (lines s) ≡ drop m f.post = cut.dropped in
    let reading : reading_after_lines start (take n (lines s)) ≡ r1 =
    ap (λ (k : ℕ). reading_after_lines start (take k (lines s))) same
    ∙ ap (λ (l : List Line). reading_after_lines start (take (suc (length f.pre) + m) l)) f.was
    ∙ reading_beyond start f.pre f.here f.post m ∙ (body_is r1 f.post).keeps in
    let line : List Mention = line_mentions r f.here in
    let line_is : line ≡ prefixes ++ g.others = g.said in
    let rest : List Mention = lines_mentions r1 (take m f.post) in
    let before : lines_mentions start (take n (lines s)) ≡ lines_mentions start f.pre ++ (line ++ rest) =
    ap (lines_mentions start) taken ∙ lines_mentions-append start f.pre (f.here ∷ take m f.post) in
    let all : ms ≡ lines_mentions start f.pre ++ (line ++ lines_mentions r1 f.post) =
    ap (lines_mentions start) f.was ∙ lines_mentions-append start f.pre (f.here ∷ f.post) in
    let carry : (P : Mention → Type 0) → SomeOf P line → SomeOf P ms =
    λ P h. subst (SomeOf P) (sym all)
    (some_right P (lines_mentions start f.pre) (line ++ lines_mentions r1 f.post)
    (some_left P line (lines_mentions r1 f.post) h)) in
    let goes : SomeOf (IsMentioned is_through a) ms =
    carry (IsMentioned is_through a) g.goes in
    let no_define : SomeOf (IsMentioned is_define a) ms → ⊥ =
    λ h. no_some (last_line (begins a) start (lines s)) no_body (some_begins a start (lines s) h).0 in
    let no_dotted : SomeOf (IsMentioned is_dotted a) ms → ⊥ = λ h. elim (dotted_lines a start (lines s) h) [
      | inl some ↦ no_some (last_line (leads_dotted a) start (lines s)) no_dots some
      | inr held ↦
          never_held r.tables a g.first g.prefix ms g.path
          (λ p w. carry (IsMentioned firm p)
          (subst (SomeOf (IsMentioned firm p)) (sym line_is)
          (some_left (IsMentioned firm p) prefixes g.others w))) goes rules held
    ] in
    let lets : AllOf (Lets a) ms =
    all_let a ms (all_meet a ms goes rules) (none_mentioned is_define a ms no_define)
    (none_mentioned is_dotted a ms no_dotted) in
    let parts : AllOf (Lets a) (lines_mentions start (take n (lines s))
    ++ lines_mentions (reading_after_lines start (take n (lines s))) (drop n (lines s))) =
    subst (AllOf (Lets a)) (mentioned_before s n) lets in
    let d : Mention = record { path = a; kind = define } in
    let doubles : AllOf (IsDoubleOf (lines_mentions start f.pre ++ (line ++ rest))) prefixes =
    doubles_right (lines_mentions start f.pre) (line ++ rest) prefixes (doubles_left line rest prefixes
    (subst (λ (l : List Mention). AllOf (IsDoubleOf l) prefixes) (sym line_is)
    (doubles_left prefixes g.others prefixes (doubles_self prefixes (way_again r.tables [] keys))))) in
    record {
      first = g.first;
      prefix = g.prefix;
      keys = ap keys_in g.path ∙ path_keys r.tables [] g.first g.prefix;
      place = record {
        few = omega (
          arith,
          same,
          body_few f.post,
          ap (λ (l : List Line). length l) f.was,
          length-append f.pre (f.here ∷ f.post),
          length-append (map line_of s.ended) (s.last ∷ []),
          length-map s.ended line_of,
        );
        path = ap (λ (x : Reading). header_path x.tables [] keys) reading ∙ g.path_later ∙ sym g.path;
        doubles =
            subst (λ (l : List Mention). AllOf (IsDoubleOf (lines_mentions start (take n (lines s)))) l)
            (sym (ap (λ (x : Reading). header_prefixes x.tables [] keys) reading ∙ g.way_later))
            (subst (λ (l : List Mention). AllOf (IsDoubleOf l) prefixes) (sym before) doubles);
        before_lets =
            all_map (Lets a) (λ x. Allowed x d) (λ x h k. (h k).0) (lines_mentions start (take n (lines s)))
            (all_left (Lets a) (lines_mentions start (take n (lines s))) _ parts);
        after_lets =
            all_map (Lets a) (Allowed d) (λ x h k. (h (sym k)).1)
            (lines_mentions (reading_after_lines start (take n (lines s))) (drop n (lines s)))
            (all_right (Lets a) (lines_mentions start (take n (lines s))) _ parts);
        free = ap (lines_mentions (record { tables = (reading_after_lines start (take n (lines s))).tables; body = a }))
            dropped
            ∙ after_free (reading_after_lines start (take n (lines s))).tables a
            (reading_after_lines start (take n (lines s))).body f.post
            ∙ sym (ap (lines_mentions (reading_after_lines start (take n (lines s)))) dropped);
      };
      lets = lets;
      goes = goes;
      path = r.tables;
      whole = g.path;
    }
  where
    no_some : (o : Option ℕ) → o ≡ None → IsSome o → ⊥
    no_some None e h = h
    no_some (Some k) e h = absurd cc
