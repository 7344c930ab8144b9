-- What is told by a code that nothing has.
use Rattle.kinds.specs.declared.types.UnknownCode.{UnknownCode}

abbrev pub unknown_code : UnknownCode
unknown_code = record {}
