-- `sin` meets its contract.
use Rattle.float.specs.Trig as spec
use Rattle.float.proofs.trig.sin.Goals as goal

pub returns : goal.returns
unfolding spec.sin
returns c = rw (c.negated_if.ensures, c.sine_at.ensures, c.sign_bit.ensures, c.reduce.ensures)
