-- A copy goes through a router from table 32 to the output.
use Rattle.std.specs.Prelude.{◌≡◌, ◌&&◌, not, true, [], ◌∷◌, refl}
use Rattle.std.proofs.Common.{sym, ap, ◌∙◌, subst, arith}
use Rattle.conn_zones.specs.Zoning.{GivenNumbers}
use Rattle.flow_lowering.specs.Registers.{reg_number}
use Rattle.inet_packet.specs.declared.packet.Packet.{Packet}
use Rattle.inet_packet.specs.declared.regs.Reg.TheVariants as reg
use Rattle.logical_flows.specs.Stages.{stage_table}
use Rattle.logical_flows.specs.declared.stage.Stage.TheVariants as stage
use Rattle.nb_records.specs.declared.router.RouterPort.{RouterPort}
use Rattle.net_model.specs.Config.{home_of_router_port, is_here}
use Rattle.net_model.specs.Forwarding.{is_translating}
use Rattle.net_model.specs.Headers.{carries_ip4}
use Rattle.net_model.specs.Trail.{Lists}
use Rattle.ovn_base.specs.declared.stages.TheConstants.{REMOTE_TABLE, LOCAL_TABLE, LOOPBACK_TABLE}
use Rattle.row_laws.specs.Copies.{not_sought}
use Rattle.row_laws.specs.Numbers.{IsDatapathKey, IsPortKey}
use Rattle.row_laws.specs.routers.RouterCopies.{RouterCopy}
use Rattle.switch_engine.specs.Actions.{set_flag, gone_on}
use Rattle.switch_engine.specs.Zones.{ZoneLists}
use Rattle.switch_engine.specs.declared.carried.Carried.{Carried}
use Rattle.sim_laws.proofs.pipelines.Pieces.{comes_goes}
use Rattle.sim_laws.proofs.pipelines.Registers.{and_stays, noted_within}
use Rattle.sim_laws.proofs.router_passes.RouterWay.{way_out, dp_key, out_key, here_too, stays, enters, left, leaves}
use Rattle.sim_laws.proofs.router_stages.RouterSteps.{goes_then}
use Rattle.sim_laws.proofs.translating_stages.AnyCopiesOn.{sought_in, same_way, stands_on}
use Rattle.sim_laws.specs.pipelines.Pieces.{ComesTo}
use Rattle.sim_laws.specs.pipelines.Standing.{Chassis, net_of, course_of}
use Rattle.sim_laws.specs.pipelines.WalkOn.{Reached, Comes}
use Rattle.sim_laws.specs.routers.Patches.{IsLaidAround, LeadsTo}
use Rattle.sim_laws.specs.routers.RouterPass.{ComesToPatch, RouterPassLaw}
use Rattle.sim_laws.specs.routers.RouterStanding.{StandsInRouter}
use Rattle.sim_laws.specs.routers.RouterWays.{Leaving, way_by_port, GoesOut, ComesToOutput, RouterEgressLaw}

module _ (s : Chassis) (numbers : GivenNumbers) (around : IsLaidAround s numbers) (law : RouterEgressLaw) (i : RouterPort)
    (at_home : is_here s.scene.here (home_of_router_port s.scene.config i) ≡ true) (first : Carried) (lists : Lists) (x : Leaving) (zones : ZoneLists) (copy : Carried) (goes : GoesOut s i first lists x zones copy)
    (inside : reg_number reg.Arrived copy.regs ≡ 0) where
  -- the router is that of the port of entry
  here : is_here s.scene.here (home_of_router_port s.scene.config goes.c.port) ≡ true
  here = ap (λ (r : RouterPort). is_here s.scene.here (home_of_router_port s.scene.config r)) goes.port ∙ at_home

  -- ---- the tables on its way

  abbrev at_33 : Carried
  at_33 = gone_on LOCAL_TABLE copy

  abbrev at_34 : Carried
  at_34 = gone_on LOOPBACK_TABLE at_33

  stands_33 : StandsInRouter s stage.RouterFind LOCAL_TABLE goes.c lists zones at_33
  stands_33 = stands_on s goes.stands stage.RouterFind LOCAL_TABLE tt

  stands_34 : StandsInRouter s stage.RouterFind LOOPBACK_TABLE goes.c lists zones at_34
  stands_34 = stands_on s stands_33 stage.RouterFind LOOPBACK_TABLE tt

  abbrev at_40 : Carried
  at_40 = left s numbers around stage.RouterFind goes.c here x.out goes.to lists zones at_34 stands_34 goes.loopback

  -- no list was asked since then
  abbrev c : RouterCopy
  c = sought_in goes.c goes.c.sight.packet not_sought

  stands_40 : StandsInRouter s stage.RouterFind (stage_table stage.RouterFind) c lists zones at_40
  stands_40 =
      let h = goes.stands in
      record {
        in_table = refl;
        packet = h.packet;
        at_port = record {
          there = h.at_port.there;
          is_port = h.at_port.is_port;
          way_out = same_way (net_of s) goes.c goes.c.sight.packet not_sought goes.c.out h.at_port.way_out;
          words = record {
            own = and_stays (set_flag 2 0 copy.regs.flags).0 251 3 refl ∙ and_stays copy.regs.flags.0 253 3 refl ∙ h.at_port.words.own;
            next = h.at_port.words.next;
            finding = refl;
          };
          whole = h.at_port.whole;
          passed = tt;
        };
        numbers = record {
          on = h.numbers.on;
          came = h.numbers.came;
          goes = h.numbers.goes;
          members = h.numbers.members;
          within = noted_within (record { out_port = copy.regs.out_port; state = 0; verdict = 0; flags = set_flag 4 0 (set_flag 2 0 copy.regs.flags) }) copy.regs h.numbers.within
              (h.numbers.within.within reg.OutPort) (omega arith) (omega arith);
          whole = h.numbers.whole;
        };
        own_zones = λ on. record { dnat = (h.own_zones on).dnat; snat = (h.own_zones on).snat };
        hold = h.hold;
      }

  -- ---- before the output

  -- it has the keys of its port there
  stands_64 : (after : Lists) (p : Packet) (last : ZoneLists) (end : Carried) → ComesToOutput s at_40 after p last end → ComesToPatch s x copy after p last end
  stands_64 after p last end is =
      let h = goes.stands in
      let way = way_out s numbers around stage.RouterFind goes.c here x.out goes.to REMOTE_TABLE lists zones copy h in
      let on = dp_key s numbers around stage.RouterFind goes.c here x.out goes.to REMOTE_TABLE lists zones copy h in
      let to = out_key s numbers around stage.RouterFind goes.c here x.out goes.to REMOTE_TABLE lists zones copy h in
      record {
        stands = record {
          in_table = is.in_table;
          packet = is.packet;
          whole = is.whole;
          leads = LeadsTo.of_router x.out way.there (here_too s numbers around stage.RouterFind goes.c here x.out goes.to REMOTE_TABLE lists zones copy h) refl refl;
          on = subst (IsDatapathKey s.keys x.out.router) (sym (is.still.registers reg.Dp refl)) on;
          to = subst (IsPortKey s.keys x.out.router x.out.name) (sym (is.still.registers reg.OutPort refl)) to;
          within = is.within;
          hold = is.hold;
        };
        passes = is.still.passes;
      }

  abbrev So : Reached
  So = ComesTo s (way_by_port s x) lists (ComesToPatch s x copy)

  tells : x.translates ≡ (not c.words.own && (is_translating (net_of s) c.port && carries_ip4 c.sight.packet))
  tells = goes.translates ∙ ap (λ (r : RouterPort). not c.words.own && (is_translating (net_of s) r && carries_ip4 c.sight.packet)) (sym goes.port)

  comes_64 : Comes (course_of s) zones (at_40 ∷ []) So
  comes_64 =
      comes_goes s (way_by_port s x) lists (ComesToOutput s at_40) (ComesToPatch s x copy) stands_64 zones (at_40 ∷ [])
      (law s around.laid c x lists zones at_40 goes.to goes.packet tells refl stands_40)

  through : Comes (course_of s) zones (copy ∷ []) So
  through =
      goes_then s zones copy at_33 So (stays s numbers around stage.RouterFind goes.c here x.out goes.to lists zones copy goes.stands)
      (goes_then s zones at_33 at_34 So (enters s numbers around stage.RouterFind goes.c here x.out goes.to lists zones at_33 stands_33 inside)
      (goes_then s zones at_34 at_40 So (leaves s numbers around stage.RouterFind goes.c here x.out goes.to lists zones at_34 stands_34 goes.loopback) comes_64))

pub goes_through : RouterEgressLaw → RouterPassLaw
goes_through law s numbers around i at_home first lists x zones copy goes inside = through s numbers around law i at_home first lists x zones copy goes inside
