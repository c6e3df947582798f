-- What the code stores of keys.
--
-- A key part is a leaf and an entry of the list of key parts. The further parts are read in a loop: the parts so far
-- and the reading from there make the reading of the whole (`FurtherSoFar`), and each iteration adds a dot, white space
-- and a part (`further_more`). A key and its `=` are put together of these: the growths are joined, and a fault of any
-- part is the key's fault.
--
-- Theorems: `part_is`, `further_more`, `further_done`, `key_is` and `name_is`.
use Rattle.std.proofs.Common.{◌≡◌, ℕ, ◌+◌, ◌<◌, false, ◌==◌, List, [], ◌∷◌, ◌++◌, length, get_or, drop, Some, Result}
use Rattle.std.proofs.Common.{Ok, Err, refl, sym, ap, ◌∙◌, arith, append_assoc, IsCharBoundary}
use Rattle.std.specs.List.{flat_map}
use Rattle.std.proofs.lemmas.List.{append-nil, length-append}
use Rattle.std.proofs.lemmas.Grind.{flat_map-append}
use Rattle.keep_types.specs.declared.leaf.Leaf.{Leaf}
use Rattle.keep_types.specs.declared.leaf.Leaf.TheVariants as leaf
use Rattle.keep_types.specs.declared.leaf.Profile.{Profile}
use Rattle.keep_token.specs.Scanning.{key_at, moved}
use Rattle.keep_syntax.specs.declared.fault.ReadFault.{ReadFault}
use Rattle.keep_types.specs.declared.syntax.KeyPart.{KeyPart}
use Rattle.keep_syntax.specs.Tree.{Written, Gap, Further, Key, Name, token, further_leaves, key_leaves}
use Rattle.keep_syntax.specs.Numbered.{width, span, further_parts, key_parts}
use Rattle.keep_syntax.specs.Numbered as numbered
use Rattle.keep_syntax.specs.Reading.{Bad, Read, ◌>>=◌, continues, ready, written, space_at, part_of, part_at}
use Rattle.keep_syntax.specs.Reading.{further_by, further_at, more_of, key_of, name_of}
use Rattle.keep_syntax_store.specs.Flat.{Flat, with_token, with_key}
use Rattle.keep_syntax.specs.Growth.{Taken, Grows, Fails, PunctuationIs, SpaceRead, KeyPartRead, FurtherRead, KeyRead}
use Rattle.keep_syntax.specs.Growth.{NameRead, part_taken, further_taken, key_taken, name_taken}
use Rattle.keep_syntax.proofs.LoopLaws.{done, ok_is, loop_on, loop_ready, loop_err}
use Rattle.keep_syntax.proofs.KeyLaws.{further_shortens}
use Rattle.keep_syntax.proofs.GrowthLaws.{width-append, same_taken, grows_nothing, grows_then, grows_as, grows_key}
use Rattle.keep_syntax.proofs.GapCodeLaws.{moved_some, first-drop, after_leaf, after_sign, leaf_end, leaf_grows}
use Rattle.keep_syntax.proofs.GapCodeLaws.{sign_grows, fails_through}

-- ---- a key part

pub part_is : (profile : Profile) (text : List ℕ) (at : ℕ) (old mid new : Flat) (l : Leaf) (end : ℕ)
    → IsCharBoundary text at → IsCharBoundary text end → at < end
    → moved at (key_at profile (drop at text)) ≡ Some (l, end) → mid ≡ with_token l at old
    → new ≡ with_key (record { leaf = l; span = span at end }) mid → KeyPartRead profile text at old new (Ok end)
part_is profile text at old mid new l end bound bound' lt e e1 e2 =
    let m = moved_some at (key_at profile (drop at text)) l end (sym e) in
    let n = m.0 in
    let w = written l n (drop at text) in
    let there : end ≡ at + length w.text = leaf_end text at n end m.2 bound'.0 in
    let read : part_at profile (drop at text) ≡ Ok (w, drop end text) =
    ap (part_of (drop at text)) m.1 ∙ ap (λ (t : List ℕ). done (w, t)) (after_leaf text at n end m.2) in
    let k : KeyPart = record { leaf = l; span = span at end } in
    record {
      part = w;
      bound = bound';
      forward = omega arith;
      is_read = read;
      grows = grows_as (part_taken at w)
          (ap (λ (x : ℕ). let t : Taken =
          record { leaves = w ∷ []; statements = []; keys = record { leaf = l; span = span at x } ∷ []; values = [] } in
          t) there)
          (grows_then (leaf_grows text at n end l old mid m.2 bound'.0 bound e1) (grows_key text k mid new end e2));
    }

-- ---- further parts

width-further : (f : Further) → width (further_leaves f) ≡ width f.before + 1 + width f.after + length f.part.text
width-further f =
    let d = token leaf.Dot (0x2E ∷ []) in
    omega (
      arith,
      width-append f.before (d ++ (f.after ++ (f.part ∷ []))),
      width-append d (f.after ++ (f.part ∷ [])),
      width-append f.after (f.part ∷ []),
      length-append f.part.text [],
    )

further_parts-append : (at : ℕ) (a b : List Further)
    → further_parts at (a ++ b) ≡ further_parts at a ++ further_parts (at + width (flat_map further_leaves a)) b
further_parts-append at [] b = ap (λ (n : ℕ). further_parts n b) (omega arith)
further_parts-append at (f ∷ fs) b =
    let from = at + width f.before + 1 + width f.after in
    let next = from + length f.part.text in
    let e : next + width (flat_map further_leaves fs) ≡ at + width (flat_map further_leaves (f ∷ fs)) =
    omega (arith, width-further f, width-append (further_leaves f) (flat_map further_leaves fs)) in
    ap (λ (ks : List KeyPart). numbered.part_at from f.part ∷ ks)
    (further_parts-append next fs b ∙ ap (λ (n : ℕ). further_parts next fs ++ further_parts n b) e)

-- the parts so far
pub record FurtherSoFar (profile : Profile) (text : List ℕ) (at here : ℕ) (old now : Flat) : Type 0 where
  pub prefix : List Further
  pub bound : IsCharBoundary text here
  pub read : more_of profile [] (drop at text) ≡ more_of profile prefix (drop here text)
  pub grows : Grows text old now at here (further_taken at (prefix, []))

pub further_none : (profile : Profile) (text : List ℕ) (at : ℕ) (old : Flat) → IsCharBoundary text at
    → FurtherSoFar profile text at at old old
further_none profile text at old bound =
    record { prefix = []; bound = bound; read = refl; grows = grows_nothing text old at }

-- an iteration after the gap
iteration_is : (profile : Profile) (prefix : List Further) (text : List ℕ) (here dot : ℕ) (g : Gap)
    → done (space_at (drop here text)) ≡ done (g, drop dot text)
    → further_at profile prefix (drop here text) ≡ further_by profile prefix (g, drop dot text)
unfolding further_at
iteration_is profile prefix text here dot g e =
    ap (further_by profile prefix) (ok_is (space_at (drop here text)) (g, drop dot text) e)

iteration_dot : (profile : Profile) (prefix : List Further) (text : List ℕ) (here dot after begin : ℕ) (g h : Gap)
    → done (space_at (drop here text)) ≡ done (g, drop dot text) → get_or text dot 0 ≡ 0x2E → after ≡ dot + 1
    → done (space_at (drop after text)) ≡ done (h, drop begin text)
    → further_at profile prefix (drop here text)
    ≡ (part_at profile (drop begin text) >>= λ p.
    Ok (continues (prefix ++ (record { before = g; after = h; part = p.0 } ∷ [])), p.1))
iteration_dot profile prefix text here dot after begin g h e b e1 e2 =
    let s : space_at (drop 1 (drop dot text)) ≡ (h, drop begin text) =
    ap space_at (after_sign text dot after e1) ∙ ok_is (space_at (drop after text)) (h, drop begin text) e2 in
    iteration_is profile prefix text here dot g e ∙ rw (first-drop text dot, b, s) refl

pub further_done : (profile : Profile) (text : List ℕ) (at here dot : ℕ) (old now new : Flat)
    → FurtherSoFar profile text at here old now → SpaceRead text here now new (Ok dot)
    → (get_or text dot 0 == 0x2E) ≡ false → FurtherRead profile text at old new (Ok dot)
further_done profile text at here dot old now new s sp other =
    let g = sp.part in
    let iteration : further_at profile s.prefix (drop here text) ≡ Ok (ready (s.prefix, g), drop dot text) =
    iteration_is profile s.prefix text here dot g sp.is_read ∙ rw (first-drop text dot, other) refl in
    record {
      part = (s.prefix, g);
      bound = sp.bound;
      forward = omega (arith, s.grows.place, sp.forward);
      is_read =
          s.read ∙ loop_ready (further_at profile) s.prefix (drop here text) (s.prefix, g) (drop dot text) iteration;
      grows = grows_as (further_taken at (s.prefix, g))
          (same_taken _ (further_taken at (s.prefix, g))
          (ap (λ (x : List Written). x ++ g) (append-nil (flat_map further_leaves s.prefix))) refl
          (append-nil (further_parts at s.prefix)) refl) (grows_then s.grows sp.grows);
    }

pub further_fails : (profile : Profile) (text : List ℕ) (at here dot after begin : ℕ) (old now f1 f2 f3 : Flat)
    (e : ReadFault) → FurtherSoFar profile text at here old now → SpaceRead text here now f1 (Ok dot)
    → get_or text dot 0 ≡ 0x2E → after ≡ dot + 1 → SpaceRead text after f2 f3 (Ok begin)
    → Fails text e (part_at profile (drop begin text)) → Fails text e (more_of profile [] (drop at text))
further_fails profile text at here dot after begin old now f1 f2 f3 e s sp b e1 sp2 k =
    fails_through text e (part_at profile (drop begin text)) (more_of profile [] (drop at text))
    (λ f h. s.read
    ∙ loop_err (further_at profile) s.prefix (drop here text) f
    (iteration_dot profile s.prefix text here dot after begin sp.part sp2.part sp.is_read b e1 sp2.is_read
    ∙ ap (λ (r : Read Written). r >>= λ p.
    Ok (continues (s.prefix ++ (record { before = sp.part; after = sp2.part; part = p.0 } ∷ [])), p.1)) h)) k

pub further_more : (profile : Profile) (text : List ℕ) (at here dot after begin end : ℕ) (old now f1 f2 f3 new : Flat)
    → FurtherSoFar profile text at here old now → SpaceRead text here now f1 (Ok dot) → get_or text dot 0 ≡ 0x2E
    → PunctuationIs text dot 1 leaf.Dot f1 f2 after → SpaceRead text after f2 f3 (Ok begin)
    → KeyPartRead profile text begin f3 new (Ok end) → FurtherSoFar profile text at end old new
further_more profile text at here dot after begin end old now f1 f2 f3 new s sp b sg sp2 p =
    let f : Further = record { before = sp.part; after = sp2.part; part = p.part } in
    let iteration : further_at profile s.prefix (drop here text)
    ≡ Ok (continues (s.prefix ++ (f ∷ [])), drop end text) =
    iteration_dot profile s.prefix text here dot after begin sp.part sp2.part sp.is_read b sg.end_is sp2.is_read
    ∙ ap (λ (r : Read Written). r >>= λ p.
    Ok (continues (s.prefix ++ (record { before = sp.part; after = sp2.part; part = p.0 } ∷ [])), p.1)) p.is_read in
    let g = grows_then s.grows (grows_then sp.grows
    (grows_then (sign_grows text (0x2E ∷ []) dot 1 leaf.Dot f1 f2 after refl sg) (grows_then sp2.grows p.grows))) in
    let ws = flat_map further_leaves s.prefix in
    let leaves : (ws ++ []) ++ further_leaves f ≡ flat_map further_leaves (s.prefix ++ (f ∷ [])) ++ [] =
    rw (
      append-nil ws,
      append-nil (flat_map further_leaves (s.prefix ++ (f ∷ []))),
      flat_map-append further_leaves s.prefix (f ∷ []),
      append-nil (further_leaves f),
    ) refl in
    let from : begin ≡ at + width ws + width f.before + 1 + width f.after =
    omega (arith, s.grows.place, width-append ws [], sp.grows.place, sg.end_is, sp2.grows.place) in
    let keys : further_parts at s.prefix ++ (numbered.part_at begin p.part ∷ [])
    ≡ further_parts at (s.prefix ++ (f ∷ [])) =
    ap (λ (n : ℕ). further_parts at s.prefix ++ (numbered.part_at n p.part ∷ [])) from
    ∙ sym (further_parts-append at s.prefix (f ∷ [])) in
    record {
      prefix = s.prefix ++ (f ∷ []);
      bound = p.bound;
      read = s.read
          ∙ loop_on (further_at profile) (further_shortens profile) s.prefix (drop here text) (s.prefix ++ (f ∷ []))
          (drop end text) iteration;
      grows = grows_as (further_taken at (s.prefix ++ (f ∷ []), []))
          (same_taken _ (further_taken at (s.prefix ++ (f ∷ []), [])) leaves refl keys refl) g;
    }

-- ---- a key and a name

pub key_fails_part : (profile : Profile) (text : List ℕ) (at : ℕ) (e : ReadFault)
    → Fails text e (part_at profile (drop at text)) → Fails text e (key_of profile (drop at text))
unfolding key_of
key_fails_part profile text at e k =
    fails_through text e (part_at profile (drop at text)) (key_of profile (drop at text)) (λ f h. rw h refl) k

pub key_is : (profile : Profile) (text : List ℕ) (at end : ℕ) (old mid new : Flat) (r : Result ℕ ReadFault)
    → KeyPartRead profile text at old mid (Ok end) → FurtherRead profile text end mid new r
    → KeyRead profile text at old new r
unfolding key_of
key_is profile text at end old mid new (Err e) p k =
    fails_through text e (more_of profile [] (drop end text)) (key_of profile (drop at text))
    (λ f h. rw (p.is_read, h) refl) k
key_is profile text at end old mid new (Ok after) p m =
    let k : Key = record { first = p.part; more = m.part.0 } in
    record {
      part = (k, m.part.1);
      bound = m.bound;
      forward = omega (arith, p.forward, m.forward);
      is_read = rw (p.is_read, m.is_read) refl;
      grows = grows_as (key_taken at (k, m.part.1))
          (ap (λ (n : ℕ). let t : Taken =
          record {
            leaves = key_leaves k ++ m.part.1;
            statements = [];
            keys = numbered.part_at at p.part ∷ further_parts n m.part.0;
            values = [];
          } in t) (omega (arith, p.grows.place, append-nil p.part.text, ap length (append-nil p.part.text))))
          (grows_then p.grows m.grows);
    }

pub name_fails_key : (profile : Profile) (text : List ℕ) (at : ℕ) (e : ReadFault)
    → Fails text e (key_of profile (drop at text)) → Fails text e (name_of profile (drop at text))
unfolding name_of
name_fails_key profile text at e k =
    fails_through text e (key_of profile (drop at text)) (name_of profile (drop at text)) (λ f h. rw h refl) k

pub name_bad : (profile : Profile) (text : List ℕ) (at equals : ℕ) (old new : Flat)
    → KeyRead profile text at old new (Ok equals) → (get_or text equals 0 == 0x3D) ≡ false
    → name_of profile (drop at text) ≡ Err Bad
unfolding name_of
name_bad profile text at equals old new k other = rw (k.is_read, first-drop text equals, other) refl

pub name_is : (profile : Profile) (text : List ℕ) (at equals after : ℕ) (old f1 f2 new : Flat) (r : Result ℕ ReadFault)
    → KeyRead profile text at old f1 (Ok equals) → get_or text equals 0 ≡ 0x3D
    → PunctuationIs text equals 1 leaf.Equals f1 f2 after → SpaceRead text after f2 new r
    → NameRead profile text at old new r
unfolding name_of
name_is profile text at equals after old f1 f2 new (Err e) k b sg sp =
    fails_through text e (done (space_at (drop after text))) (name_of profile (drop at text))
    (λ f h. let never : done (space_at (drop after text)) ≡ Err f = h in absurd cc) sp
name_is profile text at equals after old f1 f2 new (Ok end) k b sg sp =
    let n : Name = record { key = k.part.0; before = k.part.1; after = sp.part } in
    let s : space_at (drop 1 (drop equals text)) ≡ (sp.part, drop end text) =
    ap space_at (after_sign text equals after sg.end_is)
    ∙ ok_is (space_at (drop after text)) (sp.part, drop end text) sp.is_read in
    record {
      part = n;
      bound = sp.bound;
      forward = omega (arith, k.forward, sg.end_is, sp.forward);
      is_read = rw (k.is_read, first-drop text equals, b, s) refl;
      grows = grows_as (name_taken at n)
          (same_taken _ (name_taken at n) (append_assoc (key_leaves k.part.0) k.part.1 _) refl
          (append-nil (key_parts at k.part.0)) refl)
          (grows_then k.grows (grows_then (sign_grows text (0x3D ∷ []) equals 1 leaf.Equals f1 f2 after refl sg)
          sp.grows));
    }
