mod Splitting
mod ErrorKinds
mod Fronts
mod EachNamed
