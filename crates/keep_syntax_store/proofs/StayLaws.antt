-- What is moved from after nothing to after nothing stays as it is.
--
-- Theorems: `stays_flat`: all that is stored stays as it is; `map_same`: a list stays as it is if each element does.
use Rattle.std.proofs.Common.{◌≡◌, ℕ, List, [], ◌∷◌, map, refl, ap, ◌∙◌, arith, Option, Some, None}
use Rattle.keep_types.specs.declared.syntax.Span.{Span}
use Rattle.keep_types.specs.declared.syntax.Owner.{Owner}
use Rattle.keep_types.specs.declared.syntax.Owner.TheVariants as owner
use Rattle.keep_types.specs.declared.syntax.KeyPart.{KeyPart}
use Rattle.keep_types.specs.declared.syntax.Statement.{Statement}
use Rattle.keep_types.specs.declared.syntax.ValueInfo.{ValueInfo}
use Rattle.keep_syntax_store.specs.Counts.{span}
use Rattle.keep_syntax_store.specs.Flat.{Flat}
use Rattle.keep_syntax_store.specs.Rereading.{moved_flat}
use Rattle.keep_syntax_store.specs.Lifted.{origin, moved, moved_there, moved_span, moved_owner, moved_key}
use Rattle.keep_syntax_store.specs.Lifted.{moved_statement, moved_value}
use Rattle.keep_syntax_store.proofs.FlatLaws.{same_flat}

pub stays : (n : ℕ) → moved 0 0 n ≡ n
stays n = omega arith

stays_there : (o : Option ℕ) → moved_there 0 0 o ≡ o
stays_there None = refl
stays_there (Some n) = ap Some (stays n)

stays_span : (s : Span) → moved_span 0 0 s ≡ s
stays_span s = ap (λ (n : ℕ). span n (moved 0 0 s.end)) (stays s.start) ∙ ap (λ (n : ℕ). span s.start n) (stays s.end)

stays_owner : (o : Owner) → moved_owner origin origin o ≡ o
stays_owner (owner.Line n) = ap owner.Line (stays n)
stays_owner (owner.Inline n) = ap owner.Inline (stays n)
stays_owner (owner.Item n) = ap owner.Item (stays n)

pub stays_key : (k : KeyPart) → moved_key origin origin k ≡ k
stays_key k = ap (λ (x : Span). record k { span = x }) (stays_span k.span)

pub stays_statement : (s : Statement) → moved_statement origin origin s ≡ s
stays_statement s =
    ap (λ (x : Span). record (moved_statement origin origin s) { span = x }) (stays_span s.span)
    ∙ ap (λ (x : Span). record s { line = x; first_key = moved 0 0 s.first_key; value = moved_there 0 0 s.value })
    (stays_span s.line)
    ∙ ap (λ (n : ℕ). record s { first_key = n; value = moved_there 0 0 s.value }) (stays s.first_key)
    ∙ ap (λ (o : Option ℕ). record s { value = o }) (stays_there s.value)

pub stays_value : (v : ValueInfo) → moved_value origin origin v ≡ v
stays_value v =
    let first = moved 0 0 v.first_key in
    let before = moved_there 0 0 v.comma_before in
    let after = moved_there 0 0 v.comma_after in
    ap (λ (x : Span). record (moved_value origin origin v) { span = x }) (stays_span v.span)
    ∙ ap (λ (x : Span).
    record v {
      whole = x;
      owner = moved_owner origin origin v.owner;
      first_key = first;
      comma_before = before;
      comma_after = after;
    }) (stays_span v.whole)
    ∙ ap (λ (o : Owner). record v { owner = o; first_key = first; comma_before = before; comma_after = after })
    (stays_owner v.owner)
    ∙ ap (λ (n : ℕ). record v { first_key = n; comma_before = before; comma_after = after }) (stays v.first_key)
    ∙ ap (λ (o : Option ℕ). record v { comma_before = o; comma_after = after }) (stays_there v.comma_before)
    ∙ ap (λ (o : Option ℕ). record v { comma_after = o }) (stays_there v.comma_after)

pub map_same : {A : Type 0} (f : A → A) → ((x : A) → f x ≡ x) → (xs : List A) → map f xs ≡ xs
map_same f h [] = refl
map_same f h (x ∷ xs) = let e = h x in let k = map_same f h xs in cc

pub stays_flat : (f : Flat) → moved_flat origin origin f ≡ f
stays_flat f =
    same_flat (moved_flat origin origin f) f refl (map_same (moved 0 0) stays f.starts)
    (map_same (moved_statement origin origin) stays_statement f.statements)
    (map_same (moved_key origin origin) stays_key f.keys)
    (map_same (moved_value origin origin) stays_value f.values)
