-- What the serial machine of the code is to a clause.
use Rattle.xh_serial.specs.declared.serial.Serial.TheInside.{Inside as SerialInside}
use Rattle.xh_serial.specs.Machine.{Machine}

abbrev pub machine_of : SerialInside → Machine
machine_of s = record {
  store = s.plain;
  bodies = s.blocks;
  places = s.places;
  lines = s.channels.lines;
  contracts = s.channels.contracts;
  opened = s.channels.opened;
  depth = s.depth;
}
