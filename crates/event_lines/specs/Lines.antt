-- The lines of events, byte by byte.
use Rattle.std.specs.Prelude.{ℕ, List, ◌++◌, codes, decimal, flat_map}
use Rattle.hex.specs.Hex.{encode_lower}
use Rattle.ovn_base.specs.declared.name.Name.{Name}
use Rattle.inet_packet.specs.Frame.{frame_of}
use Rattle.flow_table.specs.Causes.{cause_name}
use Rattle.switch_engine.specs.declared.effect.NetEffect.{NetEffect}
use Rattle.switch_engine.specs.declared.effect.NetEffect.TheVariants.{DatapathKey, PortKey, PickBackend, PickPort, Tunnel, Out, Drop, Lost}
use Rattle.event_lines.specs.declared.refusal.Refusal.{Refusal}
use Rattle.event_lines.specs.Refusals.{refusal_words}
use Rattle.event_lines.specs.Text.{backend_text}

-- from one chassis to another, and the bytes in hexadecimal digits
abbrev pub route_words : Name → Name → List ℕ → List ℕ
route_words from to bytes = from ++ (codes " " ++ (to ++ (codes " " ++ encode_lower bytes)))

-- what a line says of an effect
abbrev pub words_of : NetEffect → List ℕ
words_of (DatapathKey name key) = codes "key datapath " ++ (name ++ (codes " " ++ decimal key))
words_of (PortKey name key) = codes "key port " ++ (name ++ (codes " " ++ decimal key))
words_of (PickBackend datapath vip backend) = codes "pick backend " ++ (datapath ++ (codes " " ++ (backend_text vip ++ (codes " " ++ backend_text backend))))
words_of (PickPort router port) = codes "pick port " ++ (router ++ (codes " " ++ decimal port))
words_of (Tunnel frame from to bytes) = codes "tunnel " ++ (decimal frame ++ (codes " " ++ route_words from to bytes))
words_of (Out port packet) = codes "out " ++ (port ++ (codes " " ++ encode_lower (frame_of packet)))
words_of (Drop datapath port cause) = codes "drop " ++ (datapath ++ (codes " " ++ (port ++ (codes " " ++ cause_name cause))))
words_of (Lost frame) = codes "lost " ++ decimal frame

-- one line of the event of this number
abbrev pub line_of : ℕ → List ℕ → List ℕ
line_of number words = decimal number ++ (codes " " ++ (words ++ codes "\n"))

-- the last line of an accepted event
abbrev pub ok_line : ℕ → ℕ → List ℕ
ok_line number walks = line_of number (codes "ok walks=" ++ decimal walks)

-- the lines of an accepted event
abbrev pub accepted_lines : ℕ → List NetEffect → ℕ → List ℕ
accepted_lines number effects walks = flat_map (λ effect. line_of number (words_of effect)) effects ++ ok_line number walks

-- the line of a refused event
abbrev pub refused_line : ℕ → Refusal → List ℕ
refused_line number refusal = line_of number (codes "refused " ++ refusal_words refusal)

-- the last line of all
abbrev pub end_line : ℕ → ℕ → ℕ → ℕ → List ℕ
end_line events accepted refused waiting = codes "end events=" ++ (decimal events ++ (codes " accepted=" ++ (decimal accepted ++ (codes " refused=" ++ (decimal refused ++ (codes " waiting=" ++ (decimal waiting ++ codes "\n")))))))
