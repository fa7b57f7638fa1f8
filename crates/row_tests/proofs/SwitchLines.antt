-- The rows of small switches have their lines, by computing.
use Rattle.std.specs.Fmt.{digits}
use Rattle.std.proofs.Common.{refl}
use Rattle.match_language.specs.Spelling.{number_text, prefix_below, mask_text, value_text, values_text}
use Rattle.row_tests.proofs.Texts.{texts}
use Rattle.row_tests.specs.Lines as line

pub no_security : line.no_security
unfolding digits number_text prefix_below mask_text value_text values_text
no_security = refl

pub address_alone : line.address_alone
unfolding digits number_text prefix_below mask_text value_text values_text
address_alone = simp texts

pub address_with_prefixes : line.address_with_prefixes
unfolding digits number_text prefix_below mask_text value_text values_text
address_with_prefixes = simp texts

pub leaving_by_prefixes : line.leaving_by_prefixes
unfolding digits number_text prefix_below mask_text value_text values_text
leaving_by_prefixes = simp texts

pub answers : line.answers
unfolding digits number_text prefix_below mask_text value_text values_text
answers = simp texts

pub looked_up : line.looked_up
unfolding digits number_text prefix_below mask_text value_text values_text
looked_up = simp texts

pub none_takes_unknown : line.none_takes_unknown
unfolding digits number_text prefix_below mask_text value_text values_text
none_takes_unknown = simp texts

pub one_takes_unknown : line.one_takes_unknown
unfolding digits number_text prefix_below mask_text value_text values_text
one_takes_unknown = simp texts

pub stateful_rule : line.stateful_rule
unfolding digits number_text prefix_below mask_text value_text values_text
stateful_rule = simp texts

pub tracked_port : line.tracked_port
unfolding digits number_text prefix_below mask_text value_text values_text
tracked_port = simp texts

pub untracked_port : line.untracked_port
unfolding digits number_text prefix_below mask_text value_text values_text
untracked_port = refl

pub stateful_switch : line.stateful_switch
unfolding digits number_text prefix_below mask_text value_text values_text
stateful_switch = simp texts

pub vip : line.vip
unfolding digits number_text prefix_below mask_text value_text values_text
vip = simp texts
