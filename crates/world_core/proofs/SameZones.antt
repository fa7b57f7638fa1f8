-- An event determines homes and numbers, where homes follow from the configuration.
use Rattle.std.specs.Prelude.{◌≡◌}
use Rattle.std.proofs.Common.{sym, subst, ◌∙◌}
use Rattle.conn_zones.specs.Rezoning.{IsRezoned}
use Rattle.conn_zones.specs.Zoning.{Zoned}
use Rattle.conn_zones.proofs.OneResult.{one_result}
use Rattle.edit_reader.specs.declared.event.Event.{Event}
use Rattle.edit_reader.specs.declared.event.Event.TheVariants.{Edit, Bind, Unbind, AddChassis, RemoveChassis, Keys, Health, Clock, Inject, Deliver, Lose, Repeat, Drain, Packet, Unread}
use Rattle.sim_laws.specs.journeys.TurnedZones.{coming_home}
use Rattle.world_setup.specs.Zones.{home_change, leaving, Rezones, unbinding}

-- gateway routers that come to the same homes get the same numbers
come_home : (before one other : Zoned) → one.homes ≡ other.homes → IsRezoned before (coming_home before.homes one.homes) one → IsRezoned before (coming_home before.homes other.homes) other → one ≡ other
come_home before one other same h k =
    one_result before (coming_home before.homes one.homes) one other h (subst (λ homes. IsRezoned before (coming_home before.homes homes) other) (sym same) k)

pub same_zones : (event : Event) (before one other : Zoned) → one.homes ≡ other.homes → Rezones event before one → Rezones event before other → one ≡ other
same_zones (Edit ops) before one other same h k = come_home before one other same h k
same_zones (Bind p chassis) before one other same h k = one_result before (home_change p chassis) one other h k
same_zones (Unbind p) before one other same h k = one_result before (unbinding p) one other h k
same_zones (AddChassis chassis) before one other same h k = come_home before one other same h k
same_zones (RemoveChassis chassis) before one other same h k = one_result before (leaving before chassis) one other h k
same_zones (Keys datapaths ports) before one other same h k = h ∙ sym k
same_zones (Health balancer backend online) before one other same h k = h ∙ sym k
same_zones (Clock seconds) before one other same h k = h ∙ sym k
same_zones (Inject p frame) before one other same h k = h ∙ sym k
same_zones (Deliver n) before one other same h k = h ∙ sym k
same_zones (Lose n) before one other same h k = h ∙ sym k
same_zones (Repeat n) before one other same h k = h ∙ sym k
same_zones Drain before one other same h k = h ∙ sym k
same_zones (Packet p frame) before one other same h k = h ∙ sym k
same_zones (Unread fault) before one other same h k = h ∙ sym k
