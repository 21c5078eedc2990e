-- What a C caller is given: what an answer says, place by place, 0 where it has no such value.
use Rattle.refusal.specs.Refusal.{Told, value}
use Rattle.measure.specs.declared.ReadNumbers.{ReadNumbers}

abbrev pub read_numbers : Told → ReadNumbers
read_numbers t =
    record {
      refusal = t.number;
      header = record {
        destination = value t 0;
        source = value t 1;
        subnet = value t 2;
        method = value t 3;
        parameter1 = value t 4;
        parameter2 = value t 5;
        kind = value t 6;
        message = value t 7;
        packet = value t 8;
      };
      length = value t 9;
    }
