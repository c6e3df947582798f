use Rattle.std.proofs.Common.{◌≡◌, ℕ, List, [], ◌∷◌, get_or, refl, sym, arith}
use Rattle.std.specs.List.{prefix_len}
use Rattle.keep_token.specs.Abnf.{is_comment}
use Rattle.keep_token.proofs.comment.comment_len.Goals as goal

-- none of a comment comes before a line feed
none_comes : (bytes : List ℕ) → get_or bytes 0 0 ≡ 0x0A → prefix_len is_comment bytes ≡ 0
none_comes [] feed = refl
none_comes (c ∷ cs) feed = rw feed refl

pub returns-then-byte_at-eq10-clause-len : goal.returns-then-byte_at-eq10-clause-len
returns-then-byte_at-eq10-clause-len c = sym (none_comes c.args.bytes.now (omega (arith, c.byte_at.ensures)))
