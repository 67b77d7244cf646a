use Rattle.std.proofs.Common.{length, ap, arith}
use Rattle.ber.proofs.Nesting.{no_values}
use Rattle.ber.proofs.Taking.{nothing_left, taken_size, taken_whole, taken_values, taken_well}
use Rattle.components.proofs.values.cursor.ValuesIterator.next.Goals as goal

pub returns-in_err-octets : goal.returns-in_err-octets
returns-in_err-octets c =
    let v = c.args.self.now in
    let none = nothing_left 7 v.place v.rest.now v.well.well c.in_err-octets.ensures in
    rw c.from_residual.ensures (record {
      steps = (no_values v.place v.rest.now none, no_values v.place v.rest.now none);
      goes = record { on = λ _. tt; keeps = tt; rests = λ f. f };
      places = omega arith;
    })

pub invariant_of-self : goal.invariant_of-self
invariant_of-self c =
    let v = c.args.self.now in
    let found = c.in_ok-octets.ensures in
    let all = taken_whole v.place v.rest.now c.in_ok-octets.octets.now c.in_ok-octets.rest.now found.0 found.1 found.2 in
    let well = taken_well v.place v.rest.now c.in_ok-octets.octets.now c.in_ok-octets.rest.now found.0 found.1 found.2 7 v.well.well in
    record { well = record { well = well.1; within = omega (arith, v.well.within) } }

pub returns : goal.returns
returns c =
    let v = c.args.self.now in
    let found = c.in_ok-octets.ensures in
    let all = taken_whole v.place v.rest.now c.in_ok-octets.octets.now c.in_ok-octets.rest.now found.0 found.1 found.2 in
    let well = taken_well v.place v.rest.now c.in_ok-octets.octets.now c.in_ok-octets.rest.now found.0 found.1 found.2 7 v.well.well in
    let first = taken_values v.place v.rest.now c.in_ok-octets.octets.now c.in_ok-octets.rest.now found.0 found.1 found.2 in
    record {
      steps = first;
      goes = record { on = λ f. (tt, f, omega (arith, ap length first)); keeps = tt; rests = λ _. tt };
      places = (
        omega arith,
        record {
          well = well.0;
          whole = taken_size v.place v.rest.now c.in_ok-octets.octets.now c.in_ok-octets.rest.now found.0 found.1 found.2;
          within = omega (arith, v.well.within);
        },
      );
    }
