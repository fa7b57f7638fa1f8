use Rattle.std.proofs.Common.{arith, sym, subst}
use Rattle.inet_packet.specs.declared.regs.Reg.TheVariants.{State, Blocked}
use Rattle.switch_engine.specs.Range.{IsInRange}
use Rattle.switch_engine.proofs.Ranges.{set_in_range}
use Rattle.switch_engine.proofs.tracking.look_up.Goals as goal

pub returns-clause-in_range : goal.returns-clause-in_range
returns-clause-in_range c =
    let one : IsInRange c.set.new.regs =
    subst IsInRange (sym c.set.ensures) (set_in_range State c.number_of.result c.args.copy.now.regs (record { within = omega (arith, c.number_of.ensures.small); of_port = λ e. absurd (cc e) }) c.requires) in
    subst IsInRange (sym c.set-2.ensures) (set_in_range Blocked c.blocked_flag.result c.set.new.regs (record { within = omega (arith, c.blocked_flag.ensures.small); of_port = λ e. absurd (cc e) }) one)
