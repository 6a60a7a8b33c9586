use Rattle.std.proofs.Common.{◌≡◌, ◌≤◌, ◌<◌, ◌+◌, [], length, take, refl, rules}
use Rattle.command_line.proofs.ReadFacts.{taken-front, taken-more, taken-whole}
use Rattle.command_line.proofs.script_reader.read_script.Goals as goal

pub returns-then-count-eq0-clause-bytes : goal.returns-then-count-eq0-clause-bytes
returns-then-count-eq0-clause-bytes g c =
    let bytes = c.in-Ok.ensures.bytes in
    let none : take c.in-Ok.count c.read.new.buf ≡ [] = rw c.if-count-eq0.true refl in
    let room : 0 < length c.read.new.buf = search rules in
    let low : length c.loop-buffer.text.items ≤ c.args.most + 1 = search rules in
    taken-whole (g.R.Read.remaining c.args.input.now.inner) (g.R.Read.remaining c.loop-buffer.input.inner) (g.R.Read.remaining c.read.new.self.inner) c.loop-buffer.text.items (take c.in-Ok.count c.read.new.buf) (c.args.most + 1)
    c.loop-buffer.invariant.taken bytes.0 none (bytes.1 c.if-count-eq0.true room) low

pub returns-clause-bytes : goal.returns-clause-bytes
returns-clause-bytes g c =
    let full : length c.loop-buffer.text.items ≡ c.args.most + 1 = search rules in
    taken-front (g.R.Read.remaining c.args.input.now.inner) (g.R.Read.remaining c.loop-buffer.input.inner) c.loop-buffer.text.items (c.args.most + 1) c.loop-buffer.invariant.taken full

pub returns-then-is_err-clause-taken : goal.returns-then-is_err-clause-taken
returns-then-is_err-clause-taken g c =
    let more = take c.in-Ok.count c.read.new.buf in
    let low : length c.loop-buffer.text.items + length more ≤ c.args.most + 1 = search rules in
    taken-more (g.R.Read.remaining c.args.input.now.inner) (g.R.Read.remaining c.loop-buffer.input.inner) (g.R.Read.remaining c.read.new.self.inner) c.loop-buffer.text.items more (c.args.most + 1)
    c.loop-buffer.invariant.taken c.in-Ok.ensures.bytes.0 low
