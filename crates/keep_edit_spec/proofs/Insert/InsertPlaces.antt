-- Where `insert` writes a line, or a section, by the origin of the node of the longest prefix of the new path.
--
-- Each law finds the line that `change_insert` looks for from the origin of that node, and puts together where a body
-- ends (`BodyPlaces`) and what new lines are in the text (`LineBefore`). How many statements are before such a line,
-- `root_ends` and `header_ends` say.
--
-- Theorems: `root_ends`, `header_ends`, `root_placed`, `header_placed`, `element_placed`, `through_placed`.
use Rattle.std.proofs.Common.{◌≡◌, ◌⊎◌, ◌<◌, ℕ, false, arith, List, [], ◌∷◌, ◌++◌, length, map, take, drop, refl, sym}
use Rattle.std.proofs.Common.{ap, subst, ◌∙◌, Option, Some, None, inl, inr}
use Rattle.keep_types.proofs.Shared.{one_of_two}
use Rattle.std.specs.List.{list_any}
use Rattle.keep_types.specs.declared.leaf.Profile.{Profile}
use Rattle.keep_syntax.specs.Tree.{Value, keyval, Document, text}
use Rattle.keep_syntax.specs.Grammar.{IsDocument}
use Rattle.keep_syntax.specs.Numbered as syntax
use Rattle.keep_path.specs.Path.{Part, key, index}
use Rattle.keep_types.specs.declared.node.Origin.TheVariants as origin
use Rattle.keep_meaning.specs.Counts.{statements_in}
use Rattle.keep_meaning.specs.Marks.{start}
use Rattle.keep_meaning.specs.Meaning.{lines, mentions_in}
use Rattle.keep_meaning.specs.Nodes.{statement_number, is_through, is_define, is_begun}
use Rattle.keep_edit_spec.specs.Changed.{Place}
use Rattle.keep_edit_spec.specs.Edits.{insert, at_line, change, end_of, name_with}
use Rattle.keep_edit_spec.specs.Insertion.{is_open, line_at, next_statement, section_at, section_end}
use Rattle.keep_edit_spec.specs.Lines.{newline_of, last_line, begins, leads_dotted, leads_through, body_length}
use Rattle.keep_edit_spec.specs.Lines.{body_end as line_end}
use Rattle.keep_edit_spec.specs.Look.{holder, is_index, item_number, keys_in}
use Rattle.keep_edit_spec.specs.Refusals.{refusal}
use Rattle.keep_edit_spec.specs.Removal.{body_end}
use Rattle.keep_edit_spec.proofs.Common.LineLaws.{EndsInKey}
use Rattle.keep_edit_spec.proofs.Common.LineStatements.{statements_of}
use Rattle.keep_edit_spec.proofs.Common.ValueThere.{the_some}
use Rattle.keep_edit_spec.proofs.Insert.BodyPlaces.{root_end, IsHeadedAt, headed_at, IsThroughAt, through_at}
use Rattle.keep_edit_spec.proofs.Insert.BodyPlaces.{through_lines}
use Rattle.keep_edit_spec.proofs.Insert.BodyStatements.{root_counted}
use Rattle.keep_edit_spec.proofs.Insert.InsertDotted.{dotted_line}
use Rattle.keep_edit_spec.proofs.Insert.InsertLine.{change_here}
use Rattle.keep_edit_spec.proofs.Insert.InsertSection.{change_section}
use Rattle.keep_edit_spec.proofs.Insert.LineBefore.{IsLowPlace, low_place, open_before, root_open, line_placed}
use Rattle.keep_edit_spec.proofs.Insert.LineBefore.{new_section, section_placed}
use Rattle.keep_edit_spec.proofs.Insert.LinesPut.{prefix_of, is_past, bom_width, line_begins}
use Rattle.keep_edit_spec.proofs.Insert.NewPath.{IsNewPath, new_path}
use Rattle.keep_edit_spec.proofs.Insert.Origins.{origin_at, headed_of_header, headed_of_element, headed_begins}
use Rattle.keep_edit_spec.proofs.Insert.Origins.{headed_one, IsThroughNode, through_node, through_ends}
use Rattle.keep_edit_spec.proofs.Insert.Origins.{mention_with_number, no_root, no_root_header}
use Rattle.keep_edit_spec.proofs.Remove.RemoveSectionPlace.{IsHeaded}

-- a keyval on a line of its own that begins at a place, with the keys of the path after its holder
abbrev pub new_line_at : Document → List Part → Value → ℕ → Place
new_line_at s path v at =
    line_at (text s) (newline_of s).text (bom_width s) at (keys_in (drop (length (holder path (mentions_in s))) path)) v

-- the end of the body of a header with a number
abbrev pub body_end_at : Document → ℕ → ℕ
body_end_at s number = section_end (drop number (syntax.statements s))

-- a table's own body ends before line i
end_after : (s : Document) (a : List Part) (i : ℕ) → (a ≡ [] → ⊥) → last_line (begins a) start (lines s) ≡ Some i
    → end_of s a ≡ Some (line_end i (lines s))
end_after s [] i some e = absurd (some refl)
end_after s (p ∷ ps) i some e = ap (λ (o : Option ℕ). elim o [ None ↦ None | Some i ↦ Some (line_end i (lines s)) ]) e

pub no_end : (s : Document) (a : List Part) → (a ≡ [] → ⊥) → last_line (begins a) start (lines s) ≡ None
    → end_of s a ≡ None
no_end s [] some e = absurd (some refl)
no_end s (p ∷ ps) some e = ap (λ (o : Option ℕ). elim o [ None ↦ None | Some i ↦ Some (line_end i (lines s)) ]) e

pub none_of : {A : Type 0} (o : Option A) → ((x : A) → o ≡ Some x → ⊥) → o ≡ None
none_of None h = refl
none_of (Some x) h = absurd (h x refl)

take_prefix : (a b : List Part) → take (length a) (a ++ b) ≡ a
take_prefix [] [] = refl
take_prefix [] (y ∷ b) = refl
take_prefix (x ∷ a) b = ap (λ (l : List Part). x ∷ l) (take_prefix a b)

-- keys alone
pub keys_alone : (ks : List (List ℕ)) → list_any is_index (map key ks) ≡ false
keys_alone [] = refl
keys_alone (k ∷ ks) = keys_alone ks

-- the header that is mentioned is one of the statements
pub headed_within : (a : List Part) (s : Document) (number : ℕ)
    → (origin_at a s ≡ origin.Header number) ⊎ (origin_at a s ≡ origin.Element number)
    → number < length (syntax.statements s)
headed_within a s number h =
    by (elim h [ inl d ↦ headed_of_header a s number d | inr b ↦ headed_of_element a s number b ])
  where
    by : IsHeaded a s number → number < length (syntax.statements s)
    by headed =
        let (i, found) = the_some (last_line (begins a) start (lines s)) (headed_begins a s number headed) in
        let at : IsHeadedAt a s (line_end i (lines s)) = headed_at a s i found in
        let same : at.number ≡ number = headed_one a s at.number number at.headed headed in
        omega (arith, same, at.body.within)

-- The body at a path ends before this line, and so many statements are before it.
pub record EndsBefore (s : Document) (a : List Part) (number : ℕ) : Type 0 where
  pub line : ℕ
  pub ends : end_of s a ≡ Some line
  pub counted : statements_of (take line (lines s)) ≡ take number (statements_in s)

pub root_ends : (s : Document) → EndsBefore s [] (next_statement None (syntax.statements s))
root_ends s = record { line = body_length (lines s); ends = refl; counted = root_counted s }

-- the body of a header that is mentioned
pub header_ends : (a : List Part) (s : Document) (number : ℕ)
    → (origin_at a s ≡ origin.Header number) ⊎ (origin_at a s ≡ origin.Element number)
    → EndsBefore s a (next_statement (Some number) (syntax.statements s))
header_ends a s number h =
    by (elim h [ inl d ↦ headed_of_header a s number d | inr b ↦ headed_of_element a s number b ])
  where
    by : IsHeaded a s number → EndsBefore s a (next_statement (Some number) (syntax.statements s))
    by headed =
        let (i, found) = the_some (last_line (begins a) start (lines s)) (headed_begins a s number headed) in
        let at : IsHeadedAt a s (line_end i (lines s)) = headed_at a s i found in
        let same : at.number ≡ number = headed_one a s at.number number at.headed headed in
        record {
          line = line_end i (lines s);
          ends = end_after s a i (λ e.
              no_root_header s i (subst (λ (x : List Part). last_line (begins x) start (lines s) ≡ Some i) e found))
              found;
          counted =
              at.body.counted
              ∙ ap (λ (n : ℕ). take (next_statement (Some n) (syntax.statements s)) (statements_in s)) same;
        }

-- What the header that goes through a path tells: it is one of the statements, and the path has a key.
pub record IsThroughHeader (a : List Part) (s : Document) (number : ℕ) : Type 0 where
  pub within : number < length (syntax.statements s)
  pub first : List ℕ
  pub more : List (List ℕ)
  pub keys : keys_in a ≡ first ∷ more

pub through_header : (a : List Part) (s : Document) (number : ℕ) → origin_at a s ≡ origin.Through number
    → IsThroughHeader a s number
through_header a s number h =
    let node : IsThroughNode a s number = through_node a s number h in
    let mentioned = mention_with_number is_through statement_number a s number node.number in
    let ends : EndsInKey a = through_ends a s mentioned in
    let (i, found) =
    the_some (last_line (leads_through a) start (lines s)) (through_lines a start (lines s) mentioned) in
    let at : IsThroughAt a s (line_end i (lines s)) = through_at a s i found in
    let same : at.number ≡ number = one_of_two _ at.number number at.through node.number in
    let (k, ks, e) = some_key ends.0 ends.1 in
    record { within = omega (arith, same, at.body.within); first = k; more = ks; keys = ap keys_in ends.2 ∙ e }
  where
    some_key : (prefix : List Part) (k : List ℕ)
        → (j : List ℕ) × (js : List (List ℕ)) × (keys_in (prefix ++ key k ∷ []) ≡ j ∷ js)
    some_key [] k = (k, [], refl)
    some_key (key j ∷ prefix) k = (j, keys_in (prefix ++ key k ∷ []), refl)
    some_key (index n ∷ prefix) k = some_key prefix k

-- No header defines the holder, and no dotted keys make it. The section is written after the body of the last header
-- that goes through it.
pub record IsThroughPlaced (s : Document) (path : List Part) (v : Value) (number : ℕ) : Type 0 where
  pub bare : end_of s (holder path (mentions_in s)) ≡ None
  pub no_dots : last_line (leads_dotted (holder path (mentions_in s))) start (lines s) ≡ None
  pub last : ℕ
  pub found : last_line (leads_through (holder path (mentions_in s))) start (lines s) ≡ Some last
  pub changes : change s (insert path v)
      ≡ at_line s (line_end last (lines s))
      (new_section (keys_in (holder path (mentions_in s)))
      (keys_in (drop (length (holder path (mentions_in s))) path)) v)
  pub placed : IsLowPlace s (insert path v)
      (section_at (text s) (newline_of s).text (bom_width s) (body_end_at s number)
      (keys_in (take (length (holder path (mentions_in s))) path))
      (keys_in (drop (length (holder path (mentions_in s))) path)) v)

module _ (profile : Profile) (limit : ℕ) (s : Document) (path : List Part) (v : Value) (valid : IsDocument profile s)
    (no_item : item_number path (mentions_in s) ≡ None)
    (allowed : refusal profile limit s (insert path v) ≡ None) where
  new : IsNewPath path (mentions_in s)
  new = new_path profile limit (mentions_in s) path v no_item allowed

  -- the keys after the holder are no indexes
  pub plain_rest : list_any is_index (drop (length (holder path (mentions_in s))) path) ≡ false
  plain_rest = ap (list_any is_index) new.rest ∙ keys_alone (new.first ∷ new.more)

  -- the path begins with its holder
  pub holder_prefix : take (length (holder path (mentions_in s))) path ≡ holder path (mentions_in s)
  holder_prefix =
      ap (take (length (holder path (mentions_in s)))) new.whole
      ∙ take_prefix (holder path (mentions_in s)) (map key (new.first ∷ new.more))

  -- at the end of a body
  body_placed : (n at : ℕ) → end_of s (holder path (mentions_in s)) ≡ Some n
      → is_open (prefix_of n s.ended s.last) ≡ is_past n s.ended → at ≡ line_begins s n
      → IsLowPlace s (insert path v) (new_line_at s path v at)
  body_placed n at ends opens begins =
      low_place profile s (insert path v) (new_line_at s path v at) n valid (
      line_placed s (insert path v) n new.first new.more v opens
      (change_here s path v n no_item ends
      ∙ ap (λ (l : List (List ℕ)). at_line s n (keyval (name_with l) v ∷ [])) new.keys)
      ∙ ap (λ (l : List (List ℕ)). line_at (text s) (newline_of s).text (bom_width s) (line_begins s n) l v)
      (sym new.keys)
      ∙ ap (new_line_at s path v) (sym begins)) begins

  pub root_placed : holder path (mentions_in s) ≡ []
      → IsLowPlace s (insert path v) (new_line_at s path v (body_end (bom_width s) (syntax.statements s)))
  root_placed root =
      body_placed (body_length (lines s)) (body_end (bom_width s) (syntax.statements s)) (ap (end_of s) root)
      (root_open profile s valid) (root_end s)

  -- after the body of the header that the holder has
  headed_line : (number : ℕ) → IsHeaded (holder path (mentions_in s)) s number
      → IsLowPlace s (insert path v) (new_line_at s path v (body_end_at s number))
  headed_line number headed =
      let a : List Part = holder path (mentions_in s) in
      let (i, found) = the_some (last_line (begins a) start (lines s)) (headed_begins a s number headed) in
      let at : IsHeadedAt a s (line_end i (lines s)) = headed_at a s i found in
      let same : at.number ≡ number = headed_one a s at.number number at.headed headed in
      body_placed (line_end i (lines s)) (body_end_at s number)
      (end_after s a i (λ e.
      no_root_header s i (subst (λ (x : List Part). last_line (begins x) start (lines s) ≡ Some i) e found)) found)
      (open_before profile s (line_end i (lines s)) valid at.body.before)
      (ap (body_end_at s) (sym same) ∙ at.body.ends)

  pub header_placed : (number : ℕ) → origin_at (holder path (mentions_in s)) s ≡ origin.Header number
      → IsLowPlace s (insert path v) (new_line_at s path v (body_end_at s number))
  header_placed number h = headed_line number (headed_of_header (holder path (mentions_in s)) s number h)

  pub element_placed : (number : ℕ) → origin_at (holder path (mentions_in s)) s ≡ origin.Element number
      → IsLowPlace s (insert path v) (new_line_at s path v (body_end_at s number))
  element_placed number h = headed_line number (headed_of_element (holder path (mentions_in s)) s number h)

  -- in a new section, after the body of the last header that goes through the holder
  pub through_placed : (number : ℕ) → origin_at (holder path (mentions_in s)) s ≡ origin.Through number
      → IsThroughPlaced s path v number
  through_placed number h =
      let a : List Part = holder path (mentions_in s) in
      let node : IsThroughNode a s number = through_node a s number h in
      let mentioned = mention_with_number is_through statement_number a s number node.number in
      let ends : EndsInKey a = through_ends a s mentioned in
      let begun : last_line (begins a) start (lines s) ≡ None =
      none_of (last_line (begins a) start (lines s)) (λ i e. unheaded node (headed_at a s i e).headed) in
      let bare : end_of s a ≡ None = no_end s a (λ e. no_root (subst EndsInKey e ends)) begun in
      let dots : last_line (leads_dotted a) start (lines s) ≡ None =
      none_of (last_line (leads_dotted a) start (lines s)) (λ i e. node.dotted (dotted_line s a i e).dotted) in
      let (i, found) =
      the_some (last_line (leads_through a) start (lines s)) (through_lines a start (lines s) mentioned) in
      let at : IsThroughAt a s (line_end i (lines s)) = through_at a s i found in
      let same : at.number ≡ number = one_of_two _ at.number number at.through node.number in
      let n : ℕ = line_end i (lines s) in
      let begins : body_end_at s number ≡ line_begins s n = ap (body_end_at s) (sym same) ∙ at.body.ends in
      let changes : change s (insert path v)
      ≡ at_line s n (new_section (keys_in a) (keys_in (drop (length a) path)) v) =
      change_section s path v i no_item bare dots found in
      record {
        bare = bare;
        no_dots = dots;
        last = i;
        found = found;
        changes = changes;
        placed =
            low_place profile s (insert path v)
            (section_at (text s) (newline_of s).text (bom_width s) (body_end_at s number)
            (keys_in (take (length a) path)) (keys_in (drop (length a) path)) v) n valid
            (section_placed s (insert path v) n (keys_in a) new.first new.more v
            (open_before profile s n valid at.body.before)
            (changes ∙ ap (λ (l : List (List ℕ)). at_line s n (new_section (keys_in a) l v)) new.keys)
            ∙ ap (λ (l : List (List ℕ)).
            section_at (text s) (newline_of s).text (bom_width s) (line_begins s n) (keys_in a) l v) (sym new.keys)
            ∙ ap (λ (m : ℕ).
            section_at (text s) (newline_of s).text (bom_width s) m (keys_in a) (keys_in (drop (length a) path)) v)
            (sym begins)
            ∙ ap (λ (x : List Part).
            section_at (text s) (newline_of s).text (bom_width s) (body_end_at s number) (keys_in x)
            (keys_in (drop (length a) path)) v) (sym holder_prefix)) begins;
      }
    where
      unheaded : {n m : ℕ} → IsThroughNode (holder path (mentions_in s)) s n
          → IsHeaded (holder path (mentions_in s)) s m → ⊥
      unheaded {n} {m} node (inl d) =
          node.header (mention_with_number is_define statement_number (holder path (mentions_in s)) s m d)
      unheaded {n} {m} node (inr b) =
          node.element (mention_with_number is_begun statement_number (holder path (mentions_in s)) s m b)
