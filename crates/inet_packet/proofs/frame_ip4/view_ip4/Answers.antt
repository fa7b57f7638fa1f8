use Rattle.std.proofs.Common.{◌≡◌, ◌-◌, ◌*◌, ◌%◌, ℕ, length, refl, subst, arith}
use Rattle.inet_packet.specs.Whole.{IsPart}
use Rattle.inet_packet.proofs.Ip4.{view_parts, view_whole}
use Rattle.inet_packet.proofs.frame_ip4.view_ip4.Goals as goal

pub returns-clause-parts : goal.returns-clause-parts
returns-clause-parts c =
    let f = c.take_front.result.0 in
    let len : c.from.result - c.from-header.result * 4 ≡ f.total - f.first % 16 * 4 = omega arith in
    let options : length c.take_bytes.result.0.now ≡ f.first % 16 * 4 - 20 = omega arith in
    view_parts c.args.bytes.now f c.take_bytes.result.0.now c.take_part-part.result.0 c.take_part-part.result.1.now c.requires (record {
      parts = rw (c.take_front.ensures.parts, c.take_bytes.ensures.parts, c.take_part-part.ensures.parts) refl;
      len = options;
      front = c.take_front.ensures.within;
      options_fit = c.take_bytes.ensures.are_bytes;
      part_fits = c.take_part-part.ensures.within;
      named = subst (λ (n : ℕ). IsPart f.frag f.proto n c.take_part-part.result.0) len c.take_part-part.ensures.named;
    })

pub returns-clause-whole : goal.returns-clause-whole
returns-clause-whole c =
    let f = c.take_front.result.0 in
    let len : c.from.result - c.from-header.result * 4 ≡ f.total - f.first % 16 * 4 = omega arith in
    let options : length c.take_bytes.result.0.now ≡ f.first % 16 * 4 - 20 = omega arith in
    view_whole c.args.bytes.now f c.take_bytes.result.0.now c.take_part-part.result.0 c.take_part-part.result.1.now c.requires (record {
      parts = rw (c.take_front.ensures.parts, c.take_bytes.ensures.parts, c.take_part-part.ensures.parts) refl;
      len = options;
      front = c.take_front.ensures.within;
      options_fit = c.take_bytes.ensures.are_bytes;
      part_fits = c.take_part-part.ensures.within;
      named = subst (λ (n : ℕ). IsPart f.frag f.proto n c.take_part-part.result.0) len c.take_part-part.ensures.named;
    })
