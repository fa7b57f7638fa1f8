use Rattle.std.proofs.Common.{◌∙◌, ap, sym, ◌&&◌, ◌||◌, Bool}
use Rattle.std.specs.List.{list_any}
use Rattle.nb_records.specs.Routers.{has_vip}
use Rattle.nb_records.specs.Switches.{serves_at}
use Rattle.nb_records.proofs.Services.{served_is}
use Rattle.nb_records.proofs.answers.is_served.Goals as goal

pub returns-then-has_external_ip : goal.returns-then-has_external_ip
returns-then-has_external_ip c =
    let net = c.args.records.now in
    let by_vip = list_any (λ e. serves_at c.args.router.now e.1 && has_vip c.args.ip e.1) net.load_balancers in
    c.if-has_external_ip.true ∙ sym (served_is net c.args.router.now c.args.ip ∙ ap (λ (b : Bool). b || by_vip) (sym c.has_external_ip.ensures ∙ c.if-has_external_ip.true))

pub returns-else-has_external_ip : goal.returns-else-has_external_ip
returns-else-has_external_ip c =
    let net = c.args.records.now in
    let by_vip = list_any (λ e. serves_at c.args.router.now e.1 && has_vip c.args.ip e.1) net.load_balancers in
    c.has_vip_at.ensures ∙ sym (served_is net c.args.router.now c.args.ip ∙ ap (λ (b : Bool). b || by_vip) (sym c.has_external_ip.ensures ∙ c.if-has_external_ip.false))
