-- `eight` meets its contract.
use Rattle.std.proofs.Common.{◌≡◌, ◌∙◌, ap, arith, rules}
use Rattle.unhex.specs.Digits.{lows_of, lows_at}
use Rattle.unhex.proofs.Fold.{le-lows}
use Rattle.unhex.proofs.Read.{lows-reads, below}
use Rattle.unhex.proofs.eight.Goals as goal

pub returns : goal.returns
returns c =
    let b = c.args.bytes.now in
    let e : c.folded.result ≡ lows_at b 0 8 = c.folded.ensures ∙ ap (lows_of 8) c.from_le_bytes.ensures ∙ le-lows b (search rules) in
    record { value = e; fits = omega (arith, below lows-reads b 0 8) }
